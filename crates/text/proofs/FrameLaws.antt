-- Laws of the frames' layouts: how long a line that holds a frame is, and that its record is well formed.
use Rattle.std.specs.Prelude.{ℕ, suc, ◌+◌, ◌*◌, ◌-◌, ◌^◌, ◌<◌, ◌≤◌, ◌≡◌, Bool, true, false, List, [], ◌∷◌, eqb, ltb, pos, negsuc, length}
use Rattle.std.proofs.Math.Path.{refl}
use Rattle.std.proofs.Math.Option.{Option, none, some}
use Rattle.std.proofs.Common.{arith, eqb-true, ltb-false, lt-ltb}
use Rattle.integers.specs.Compare.{eq_ℤ}
use Rattle.lists.specs.Search.{choose}
use Rattle.tables.specs.Records.{variable_kind, auxiliary_kind, equality_kind, disequality_kind, offset_in_range, atom_record, term_of, proposition_of, question_of}
use Rattle.tables.specs.Refusals.{malformed}
use Rattle.text.specs.Lines.{Line, digit, cons_byte, bytes_of, big, signed}
use Rattle.text.proofs.Digits.{digit_only}
use Rattle.text.specs.Frames.{Frame, term, proposition, question, Layout, field, atom, dereference, relation, blocks, asked, layouts, frame_by, frame_of_bytes, frame_of}

cons_byte_some : (a b : Option ℕ) (r : Option (List ℕ)) (bs : List ℕ)
    → cons_byte a b r ≡ some bs
    → (h : ℕ) × (l : ℕ) × (ds : List ℕ) × (a ≡ some h) × (b ≡ some l) × (r ≡ some ds) × (bs ≡ (16 * h + l) ∷ ds)
cons_byte_some none b r bs e = let z : ◌≡◌ {A = ℕ} 0 1 = cc in absurd (omega arith)
cons_byte_some (some h) none r bs e = let z : ◌≡◌ {A = ℕ} 0 1 = cc in absurd (omega arith)
cons_byte_some (some h) (some l) none bs e = let z : ◌≡◌ {A = ℕ} 0 1 = cc in absurd (omega arith)
cons_byte_some (some h) (some l) (some ds) bs e = (h, l, ds, refl, refl, refl, cc)

bytes_of_length : (cs bs : List ℕ) → bytes_of cs ≡ some bs → 2 * length bs ≡ length cs
unfolding bytes_of
bytes_of_length [] bs e = let f : bs ≡ [] = cc in rw f
bytes_of_length (h ∷ []) bs e = let z : ◌≡◌ {A = ℕ} 0 1 = cc in absurd (omega arith)
bytes_of_length (h ∷ l ∷ cs) bs e =
    let r = cons_byte_some (digit h) (digit l) (bytes_of cs) bs e in
    let i = bytes_of_length cs r.2 r.5 in
    rw r.6 (omega arith)

-- each number is below 256
abbrev Bytes : List ℕ → Type 0
Bytes [] = Unit
Bytes (b ∷ bs) = (b < 256) × Bytes bs

bytes_of_below : (cs bs : List ℕ) → bytes_of cs ≡ some bs → Bytes bs
unfolding bytes_of
bytes_of_below [] bs e = let f : bs ≡ [] = cc in rw f tt
bytes_of_below (h ∷ []) bs e = let z : ◌≡◌ {A = ℕ} 0 1 = cc in absurd (omega arith)
bytes_of_below (h ∷ l ∷ cs) bs e =
    let r = cons_byte_some (digit h) (digit l) (bytes_of cs) bs e in
    let a = (digit_only h r.0 r.3).0 in
    let b = (digit_only l r.1 r.4).0 in
    rw r.6 (omega arith, bytes_of_below cs r.2 r.5)

-- what holds of every layout
abbrev Each : (Layout → Type 0) → List Layout → Type 0
Each P [] = Unit
Each P (l ∷ ls) = P l × Each P ls

-- what each layout's frame of so many bytes has, a frame has
frame_by_each : (P : Frame → Type 0) (ls : List Layout) (k : ℕ) (bs : List ℕ)
    → Each (λ l. length bs ≡ l.size → P (l.frame bs)) ls
    → (f : Frame)
    → frame_by ls k bs ≡ some f
    → P f
unfolding frame_by
frame_by_each P [] k bs each f e = let z : ◌≡◌ {A = ℕ} 0 1 = cc in absurd (omega arith)
frame_by_each P (l ∷ ls) k bs each f e = go (eqb l.kind k) (eqb (length bs) l.size) refl (λ g. frame_by_each P ls k bs each.1 f g) e
  where
    go : (a b : Bool)
        → eqb (length bs) l.size ≡ b
        → (frame_by ls k bs ≡ some f → P f)
        → choose a (choose b (some (l.frame bs)) none) (frame_by ls k bs) ≡ some f
        → P f
    go true true s ih g =
        let is : l.frame bs ≡ f = cc in
        rw is at (each.0 (eqb-true (length bs) l.size s))
    go true false s ih g = let z : ◌≡◌ {A = ℕ} 0 1 = cc in absurd (omega arith)
    go false b s ih g = ih g

-- the bytes of the longest line that holds such a frame, its LF counted
abbrev pub frame_bytes : Frame → ℕ
frame_bytes (term r) = 15
frame_bytes (proposition p) = 19
frame_bytes (question q) = 19

bytes_size : (k : ℕ) (bs : List ℕ) (f : Frame) → frame_by layouts k bs ≡ some f → 2 * length bs + 3 ≤ frame_bytes f
unfolding layouts
bytes_size k bs =
    frame_by_each (λ f. 2 * length bs + 3 ≤ frame_bytes f) layouts k bs
    (λ e. omega arith, (λ e. omega arith, (λ e. omega arith, (λ e. omega arith, (λ e. omega arith, (λ e. omega arith, (λ e. omega arith, tt)))))))

-- the bytes that spell a frame
frame_bytes_lem : (cs : List ℕ) (f : Frame) → frame_of_bytes (bytes_of cs) ≡ some f → (k : ℕ) × (bs : List ℕ) × (bytes_of cs ≡ some (k ∷ bs)) × (frame_by layouts k bs ≡ some f)
frame_bytes_lem cs f = go (bytes_of cs)
  where
    go : (o : Option (List ℕ)) → frame_of_bytes o ≡ some f → (k : ℕ) × (bs : List ℕ) × (o ≡ some (k ∷ bs)) × (frame_by layouts k bs ≡ some f)
    go none e = let z : ◌≡◌ {A = ℕ} 0 1 = cc in absurd (omega arith)
    go (some []) e = let z : ◌≡◌ {A = ℕ} 0 1 = cc in absurd (omega arith)
    go (some (k ∷ bs)) e = (k, bs, refl, e)

pub characters_size : (cs : List ℕ) (f : Frame) → frame_of_bytes (bytes_of cs) ≡ some f → length cs + 1 ≤ frame_bytes f
characters_size cs f e =
    let r = frame_bytes_lem cs f e in
    omega (arith, bytes_of_length cs (r.0 ∷ r.1) r.2, bytes_size r.0 r.1 f r.3)

-- a line longer than the longest frame holds none
pub line_long : (cs : List ℕ) → 18 < length cs → frame_of_bytes (bytes_of cs) ≡ none
line_long cs h = go (frame_of_bytes (bytes_of cs)) refl
  where
    longest : (f : Frame) → frame_bytes f ≤ 19
    longest (term r) = omega arith
    longest (proposition p) = omega arith
    longest (question q) = omega arith

    go : (o : Option Frame) → frame_of_bytes (bytes_of cs) ≡ o → o ≡ none
    go none e = refl
    go (some f) e = absurd (omega (arith, characters_size cs f e, longest f))

-- a line that holds a frame has its LF
pub line_framed : (l : Line) (f : Frame) → frame_of l ≡ some f → (l.ended ≡ true) × (frame_of_bytes (bytes_of l.characters) ≡ some f)
unfolding frame_of
line_framed l f = go l.ended refl
  where
    go : (b : Bool) → l.ended ≡ b → choose b (frame_of_bytes (bytes_of l.characters)) none ≡ some f → (b ≡ true) × (frame_of_bytes (bytes_of l.characters) ≡ some f)
    go true e g = (refl, g)
    go false e g = let z : ◌≡◌ {A = ℕ} 0 1 = cc in absurd (omega arith)

-- the frame's record is well formed
abbrev pub Formed : Frame → Type 0
Formed (term r) = malformed (term_of r) ≡ none
Formed (proposition p) = malformed (proposition_of p) ≡ none
Formed (question q) = malformed (question_of q) ≡ none

signed_in_range : (n : ℕ) → offset_in_range (signed 32 n) ≡ true
unfolding offset_in_range signed
signed_in_range n = go (ltb n (2 ^ 31)) refl
  where
    go : (b : Bool) → ltb n (2 ^ 31) ≡ b → offset_in_range (choose b (pos n) (negsuc (2 ^ 32 - suc n))) ≡ true
    go true e = e
    go false e = let h = ltb-false n (2 ^ 31) e in lt-ltb (2 ^ 32 - suc n) (2 ^ 31) (omega arith)

word_below : (bs : List ℕ) → Bytes bs → length bs ≡ 2 → field 0 2 bs < 2 ^ 16
unfolding big
word_below [] b e = absurd (omega arith)
word_below (x ∷ []) b e = absurd (omega arith)
word_below (x ∷ y ∷ []) b e = omega (arith, b.0, b.1.0)
word_below (x ∷ y ∷ z ∷ bs) b e = absurd (omega arith)

module _ (bs : List ℕ) where
  variable_formed : Bytes bs → length bs ≡ 2 → Formed ((atom variable_kind).frame bs)
  unfolding term_of atom_record eq_ℤ
  variable_formed b e = rw (lt-ltb (field 0 2 bs) (2 ^ 16) (word_below bs b e))

  auxiliary_formed : Bytes bs → length bs ≡ 2 → Formed ((atom auxiliary_kind).frame bs)
  unfolding term_of atom_record eq_ℤ
  auxiliary_formed b e = rw (lt-ltb (field 0 2 bs) (2 ^ 16) (word_below bs b e))

  dereference_formed : Formed (dereference.frame bs)
  unfolding term_of
  dereference_formed = rw (signed_in_range (field 2 4 bs))

  equality_formed : Formed ((relation equality_kind).frame bs)
  unfolding proposition_of
  equality_formed = rw (signed_in_range (field 2 4 bs))

  disequality_formed : Formed ((relation disequality_kind).frame bs)
  unfolding proposition_of
  disequality_formed = rw (signed_in_range (field 2 4 bs))

  blocks_formed : Formed (blocks.frame bs)
  unfolding proposition_of eq_ℤ
  blocks_formed = refl

  asked_formed : Formed (asked.frame bs)
  unfolding question_of
  asked_formed = rw (signed_in_range (field 2 4 bs))

bytes_formed : (k : ℕ) (bs : List ℕ) → Bytes bs → (f : Frame) → frame_by layouts k bs ≡ some f → Formed f
unfolding layouts
bytes_formed k bs b =
    frame_by_each Formed layouts k bs
    (variable_formed bs b, (auxiliary_formed bs b, (λ e. dereference_formed bs, (λ e. equality_formed bs, (λ e. disequality_formed bs, (λ e. blocks_formed bs, (λ e. asked_formed bs, tt)))))))

-- a line's record is well formed
pub line_formed : (l : Line) (f : Frame) → frame_of l ≡ some f → Formed f
line_formed l f e =
    let cs = l.characters in
    let r = frame_bytes_lem cs f (line_framed l f e).1 in
    bytes_formed r.0 r.1 (bytes_of_below cs (r.0 ∷ r.1) r.2).1 f r.3
