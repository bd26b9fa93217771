use Rattle.std.proofs.Common.{ℕ, ◌+◌, ◌≡◌, ◌⊎◌, List, [], ◌∷◌, ◌++◌, ℤ, length, SFits, rules, inl, inr, ⊎_elim, refl, add-one, arith, length-append}
use Rattle.std.specs.Int.{w64}
use Rattle.std.proofs.lemmas.Int.{to_z-of_z}
use Rattle.text.specs.Output.{label_frame, label_frames}
use Rattle.writer.specs.Appended.{remaining_next, remaining_end, remaining_fits}
use Rattle.writer.proofs.put_labels.Goals as goal

labels_more : (t r : ℕ) (o : ℤ) (rs rest : List ℕ) (os other : List ℤ) → rs ≡ r ∷ rest → os ≡ o ∷ other → label_frames t rs os ≡ label_frame t r o ++ label_frames (t + 1) rest other
unfolding label_frames
labels_more t r o rs rest os other e f = rw (e, f, add-one t)

labels_over : (t : ℕ) (rs : List ℕ) (os : List ℤ) → (length rs ≡ 0) ⊎ (length os ≡ 0) → label_frames t rs os ≡ []
unfolding label_frames
labels_over t [] os h = refl
labels_over t (r ∷ rs) [] h = refl
labels_over t (r ∷ rs) (o ∷ os) (inl h) = absurd (omega arith)
labels_over t (r ∷ rs) (o ∷ os) (inr h) = absurd (omega arith)

pub put_label-next-requires : goal.put_label-next-requires
put_label-next-requires c =
    let l = c.loop-t in
    let s = c.in-Some.ensures.steps in
    let r = c.in-Some.r.now in
    let o = c.in-Some.o.now in
    let fits : SFits w64 c.in-Some.o.now = search rules in
    let R = rw (labels_more l.t-iterator.count _ _ _ _ _ _ s.0.0 s.0.1) at l.invariant in
    rw (to_z-of_z w64 o fits, s.1)
    (omega (arith, remaining_fits _ _ _ _ _ _ c.requires.offsets_in_bounds R, length-append (label_frame l.t-iterator.count r o) (label_frames (l.t-iterator.count + 1) c.next.new.self.iter.a.rest.now c.next.new.self.iter.b.rest.now)))

pub loop-t-preserved : goal.loop-t-preserved
loop-t-preserved c =
    let l = c.loop-t in
    let s = c.in-Some.ensures.steps in
    let o = c.in-Some.o.now in
    let fits : SFits w64 c.in-Some.o.now = search rules in
    let p = rw (to_z-of_z w64 o fits, s.1) at c.put_label-next.ensures in
    rw s.2 (remaining_next _ _ _ _ _ _ _ _ _ (rw (labels_more l.t-iterator.count _ _ _ _ _ _ s.0.0 s.0.1) at l.invariant) p)

pub returns : goal.returns
returns c =
    let l = c.loop-t in
    let s = c.in-None.ensures.steps in
    let over = ⊎_elim (λ a. inl a.1.0) (λ b. inr b.1.0) s.0 in
    remaining_end _ _ _ _ _ (rw (labels_over l.t-iterator.count l.t-iterator.iter.a.rest.now l.t-iterator.iter.b.rest.now over) at l.invariant)
