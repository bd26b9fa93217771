-- `marking::base::classes_differ` meets its contract.
use Rattle.std.proofs.Common.{refl, rules}
use Rattle.marking.specs.Classes.{differ_by_classes}
use Rattle.marking.proofs.base.classes_differ.Goals as goal

pub returns : goal.returns
unfolding differ_by_classes
returns c = rw (c.test_pair-apart_classes.ensures, c.other_height.ensures) refl
