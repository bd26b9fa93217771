-- Laws of the frames' layouts.
use Rattle.std.specs.Prelude.{ℕ, ◌-◌, ◌<◌, ◌≡◌, refl, List, [], ◌∷◌, eqb, length, take, drop, get_or}
use Rattle.std.proofs.Common.{sym, arith, eq-eqb, ne_eqb, length-drop, take_all}
use Rattle.std.proofs.Math.Option.{Option, none, some}
use Rattle.lists.specs.Search.{choose}
use Rattle.tables.specs.Records.{variable_kind, auxiliary_kind, deref_kind, equality_kind, disequality_kind, block_disequality_kind, question_kind}
use Rattle.text.specs.Frames.{Frame, Layout, layouts, frame_by, frame_of_bytes}

-- the frame of a layout, if there are as many bytes as it wants
abbrev pub framed : Layout → List ℕ → Option Frame
framed l bs = choose (eqb (length bs) l.size) (some (l.frame bs)) none

pub framed_right : (l : Layout) (bs : List ℕ) → length bs ≡ l.size → framed l bs ≡ some (l.frame bs)
framed_right l bs e = rw (eq-eqb (length bs) l.size e)

pub framed_wrong : (l : Layout) (bs : List ℕ) → (length bs ≡ l.size → ⊥) → framed l bs ≡ none
framed_wrong l bs n = rw (ne_eqb (length bs) l.size n)

-- a frame's bytes: the kind k, and the fields
module _ (bytes : List ℕ) (k : ℕ) (some_byte : 0 < length bytes) (kind-is : get_or bytes 0 0 ≡ k) where
  pub frame_fields : frame_of_bytes (some bytes) ≡ frame_by layouts k (take (length bytes - 1) (drop 1 bytes))
  frame_fields =
      let e : take (length bytes - 1) (drop 1 bytes) ≡ drop 1 bytes = take_all (length bytes - 1) (drop 1 bytes) (simp length-drop (omega arith)) in
      rw (e, ← kind-is) (go bytes some_byte)
    where
      go : (l : List ℕ) → 0 < length l → frame_of_bytes (some l) ≡ frame_by layouts (get_or l 0 0) (drop 1 l)
      go [] h = absurd (omega arith)
      go (b ∷ bs) h = refl

pub unknown_kind : (k : ℕ) (bs : List ℕ)
    → (k ≡ variable_kind → ⊥)
    → (k ≡ auxiliary_kind → ⊥)
    → (k ≡ deref_kind → ⊥)
    → (k ≡ equality_kind → ⊥)
    → (k ≡ disequality_kind → ⊥)
    → (k ≡ block_disequality_kind → ⊥)
    → (k ≡ question_kind → ⊥)
    → frame_by layouts k bs ≡ none
unfolding frame_by layouts
unknown_kind k bs a b c d e f g =
    simp (
      ne_eqb variable_kind k (λ x. a (sym x)),
      ne_eqb auxiliary_kind k (λ x. b (sym x)),
      ne_eqb deref_kind k (λ x. c (sym x)),
      ne_eqb equality_kind k (λ x. d (sym x)),
      ne_eqb disequality_kind k (λ x. e (sym x)),
      ne_eqb block_disequality_kind k (λ x. f (sym x)),
      ne_eqb question_kind k (λ x. g (sym x)),
    )

pub empty_list : {A : Type 0} (l : List A) → length l ≡ 0 → l ≡ []
empty_list [] e = refl
empty_list (x ∷ l) e = absurd (omega arith)
