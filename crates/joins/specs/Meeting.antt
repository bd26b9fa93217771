-- Joins of dereferences of one address, one after another.
use Rattle.std.specs.Prelude.{ℕ, ◌<◌, ◌≡◌, refl, Bool, true, false, ◌&&◌, eqb, List, ℤ, pos, ◌+ℤ◌, length}
use Rattle.std.proofs.Common.{sym, ◌∙◌, ap, arith, SFits, eqb-true, int_eq}
use Rattle.std.proofs.lemmas.Bool.Decides.{Decides-int_eq}
use Rattle.lists.specs.Booleans.{and_true}
use Rattle.rules.specs.Assignments.{Placement, Holds}
use Rattle.std.specs.Int.{w64}
use Rattle.integers.specs.Within.{Within, within_zero}
use Rattle.labels.specs.Spread.{far}
use Rattle.integers.specs.Within.{within_sum}
use Rattle.offsets.specs.Fits.{within_fits}
use Rattle.tables.specs.Limits.{offset_limit}
use Rattle.labels.specs.Joins.{Joined, joined_keeps}
use Rattle.tables.specs.Records.{TermRecord, deref_kind}
use Rattle.tables.specs.TermTable.{AcceptedTerms}
use Rattle.tables.proofs.TermTable.{inner_before, offset_within}
use Rattle.unionfind.specs.declared.Root.{Root}
use Rattle.unionfind.specs.declared.Joining.{Joining}
use Rattle.unionfind.specs.Forest.{flat, Found, Equated}
use Rattle.lastlook.specs.Addresses.{SameAddress}
use Rattle.joins.specs.Labels.{Labels, Unchanged, unchanged_labels, unchanged_then, joined_labels}

-- the address that a dereference reads fits
pub address_fits : {a b : ℤ} → Within offset_limit a → Within far b → SFits w64 (a +ℤ b)
address_fits v w = within_fits (omega arith) (within_sum v w)

pub offset_fits : {a : ℤ} → Within offset_limit a → SFits w64 a
offset_fits w = within_fits (omega arith) w

pub far_fits : {a : ℤ} → Within far a → SFits w64 a
far_fits w = within_fits (omega arith) w

-- the class and the address that the record reads
pub record Addressed (p0 : List ℕ) (o0 : List ℤ) (p : List ℕ) (o : List ℤ) (r : TermRecord) (at : Root) : Type 0 where
  pub unchanged : Unchanged p0 o0 p o
  pub class : at.term.0 ≡ (flat p0 o0).block r.number
  pub address : at.offset ≡ r.offset +ℤ (flat p0 o0).position r.number

-- whether y is a dereference that reads an address
pub data Reads (rec : ℕ → TermRecord) (p0 : List ℕ) (o0 : List ℤ) (p : List ℕ) (o : List ℤ) (y : ℕ) (at : Root) : Bool → Type 0 where
  it_does :
      Unchanged p0 o0 p o →
      (rec y).kind ≡ deref_kind →
      at.term.0 ≡ (flat p0 o0).block (rec y).number →
      at.offset ≡ (rec y).offset +ℤ (flat p0 o0).position (rec y).number →
      Reads rec p0 o0 p o y at true
  does_not : Unchanged p0 o0 p o → Reads rec p0 o0 p o y at false

pub reads_not : {rec : ℕ → TermRecord} {p0 p : List ℕ} {o0 o : List ℤ} {y : ℕ} {at : Root} {b : Bool} → Reads rec p0 o0 p o y at b → Unchanged p0 o0 p o
reads_not (it_does U k c a) = U
reads_not (does_not U) = U

pub own_labels : {n : ℕ} {p : List ℕ} {o : List ℤ} → Labels n p o → Labels (length p) p o
own_labels L = record { few = rw L.count L.few; links = L.links; count = refl; spread = rw L.count L.spread }

-- the record of an accepted dereference, as the search for its address wants it
pub deref_record :
    {n : ℕ} (rec : ℕ → TermRecord) {p : List ℕ} {o : List ℤ} {y : ℕ} {r : TermRecord} →
    AcceptedTerms n rec →
    Labels n p o →
    y < n →
    r ≡ rec y →
    r.kind ≡ deref_kind →
    Labels (length p) p o × ((r.number < length p) × Within offset_limit r.offset)
deref_record {n} rec {p} {o} {y} {r} A L h e k =
    let i : (rec y).kind ≡ deref_kind = rw e at k in
    (own_labels L, (omega (arith, inner_before n rec A y h i, ap (λ (t : TermRecord). t.number) e, L.count), rw e (offset_within n rec A y h i)))

pub reads_by :
    {rec : ℕ → TermRecord} {p0 : List ℕ} {o0 : List ℤ} {p : List ℕ} {o : List ℤ} {y : ℕ} {r : TermRecord} {at other : Root} →
    r ≡ rec y →
    r.kind ≡ deref_kind →
    Addressed p0 o0 p o r other →
    (b : Bool) →
    b ≡ (eqb other.term.0 at.term.0 && int_eq other.offset at.offset) →
    Reads rec p0 o0 p o y at b
reads_by {rec} {p0} {o0} {p} {o} {y} {r} {at} {other} e k A true t =
    let h = and_true (eqb other.term.0 at.term.0) (int_eq other.offset at.offset) (sym t) in
    it_does A.unchanged (rw e at k) (sym (eqb-true _ _ h.0) ∙ rw e at A.class) (sym ((Decides-int_eq other.offset at.offset).0 h.1) ∙ rw e at A.address)
reads_by e k A false t = does_not A.unchanged

pub found_unchanged : {p0 p : List ℕ} {o0 o : List ℤ} {t : ℕ} {r : Root} → Found p0 o0 p o t r → Unchanged p0 o0 p o
found_unchanged F = record { links = F.links; same = F.same; long = F.long }

module _ (n : ℕ) (rec : ℕ → TermRecord) where
  pub data Chain (P : Placement) : Placement → Type 0 where
    start : Chain P P
    more : {Q R : Placement} {x y : ℕ} → Chain P Q → x < n → y < n → SameAddress rec Q x y → Joined n Q R x (pos 0) y → Chain P R

  pub chain_append : {P Q R : Placement} → Chain P Q → Chain Q R → Chain P R
  chain_append c start = c
  chain_append c (more d hx hy s J) = more (chain_append c d) hx hy s J

  -- what held holds
  pub chain_keeps : {P Q : Placement} → Chain P Q → {t u : ℕ} {z : ℤ} → t < n → u < n → Holds P t z u → Holds Q t z u
  chain_keeps start ht hu h = h
  chain_keeps (more {Q = Q} {R = R} {x = x} {y = y} c hx hy s J) ht hu h = joined_keeps n Q R x (pos 0) y hx hy J ht hu (chain_keeps c ht hu h)

  -- two dereferences of one address and one class, at different offsets
  pub record Clash (P : Placement) (x y : ℕ) : Type 0 where
    pub below_x : x < n
    pub below_y : y < n
    pub same : SameAddress rec P x y
    pub together : P.block x ≡ P.block y
    pub unequal : Holds P x (pos 0) y → ⊥

  -- x and y were found to read one address, by looks that left the labelling as it was
  pub record Tested (p0 : List ℕ) (o0 : List ℤ) (p : List ℕ) (o : List ℤ) (x y : ℕ) : Type 0 where
    pub unchanged : Unchanged p0 o0 p o
    pub same : SameAddress rec (flat p0 o0) x y

  pub tested :
      {p0 p1 p2 : List ℕ} {o0 o1 o2 : List ℤ} {x y : ℕ} {r : TermRecord} {at : Root} →
      r ≡ rec x →
      r.kind ≡ deref_kind →
      Addressed p0 o0 p1 o1 r at →
      Reads rec p1 o1 p2 o2 y at true →
      Tested p0 o0 p2 o2 x y
  tested e k A (it_does U i c a) =
      let s = A.unchanged.same in
      record {
        unchanged = unchanged_then A.unchanged U;
        same = record {
          deref_x = rw e at k;
          deref_y = i;
          block = sym (rw e at A.class) ∙ rw s at c;
          position = sym (rw e at A.address) ∙ rw s at a;
        };
      }

  -- what joins leave, with two dereferences that clash where they end in false
  pub data Chased (p0 : List ℕ) (o0 : List ℤ) (p : List ℕ) (o : List ℤ) : Bool → Type 0 where
    going : Chain (flat p0 o0) (flat p o) → Labels n p o → length p ≡ length p0 → Chased p0 o0 p o true
    clash : {x y : ℕ} → Chain (flat p0 o0) (flat p o) → length p ≡ length p0 → Clash (flat p o) x y → Chased p0 o0 p o false

  module _ {p0 : List ℕ} {o0 : List ℤ} {p1 : List ℕ} {o1 : List ℤ} {p2 : List ℕ} {o2 : List ℤ} where
    pub unchanged_chased : Labels n p1 o1 → Chain (flat p0 o0) (flat p1 o1) → length p1 ≡ length p0 → Unchanged p1 o1 p2 o2 → Chased p0 o0 p2 o2 true
    unchanged_chased L c l U = going (rw U.same c) (unchanged_labels U L) (U.long ∙ l)

    -- one run after another
    pub chased_then : {b : Bool} → Chased p0 o0 p1 o1 true → Chased p1 o1 p2 o2 b → Chased p0 o0 p2 o2 b
    chased_then (going c L l) (going d M m) = going (chain_append c d) M (m ∙ l)
    chased_then (going c L l) (clash d m C) = clash (chain_append c d) (m ∙ l) C

  -- what the join of two dereferences of one address leaves
  module _ {p0 p1 p2 : List ℕ} {o0 o1 o2 : List ℤ} {x y : ℕ} (L : Labels n p0 o0) (hx : x < n) (hy : y < n) (T : Tested p0 o0 p1 o1 x y) where
    pub merged_joined : Equated p1 o1 p2 o2 x (pos 0) y Joining.Joined → Chased p0 o0 p2 o2 true
    merged_joined (Equated.joined K l J) =
        let k = l ∙ T.unchanged.long in
        let M = rw (T.unchanged.long ∙ L.count, T.unchanged.same) at J in
        going (more start hx hy T.same M) (joined_labels K k hx hy within_zero M L) k

    pub merged_held : Equated p1 o1 p2 o2 x (pos 0) y Joining.Held → Chased p0 o0 p2 o2 true
    merged_held (Equated.held K l s h) = unchanged_chased L start refl (unchanged_then T.unchanged (record { links = K; same = s; long = l }))

    pub merged_clashed : Equated p1 o1 p2 o2 x (pos 0) y Joining.Clashed → Chased p0 o0 p2 o2 false
    merged_clashed (Equated.clashed K l s b m) =
        let u = T.unchanged.same in
        let e = s ∙ u in
        clash {x = x} {y = y} (rw e start) (l ∙ T.unchanged.long)
        (rw e (record { below_x = hx; below_y = hy; same = T.same; together = rw u at b; unequal = λ h. rw u at m h.at_offset }))

  pub chased_start : {p : List ℕ} {o : List ℤ} → Labels n p o → Chased p o p o true
  chased_start L = going start L refl

  pub chased_labels : {p0 p : List ℕ} {o0 o : List ℤ} → Chased p0 o0 p o true → Labels n p o
  chased_labels (going c L l) = L

  pub chased_chain : {p0 p : List ℕ} {o0 o : List ℤ} → Chased p0 o0 p o true → Chain (flat p0 o0) (flat p o)
  chased_chain (going c L l) = c

  pub chased_long : {p0 p : List ℕ} {o0 o : List ℤ} → Chased p0 o0 p o true → length p ≡ length p0
  chased_long (going c L l) = l
