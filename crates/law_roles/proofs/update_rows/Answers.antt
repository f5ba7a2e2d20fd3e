use Rattle.std.proofs.Common.{refl}
use Rattle.law_roles.proofs.Rows.{kept_is}
use Rattle.law_roles.proofs.update_rows.Goals as goal

pub returns : goal.returns
returns c = record {
  compound = refl;
  spelled = refl;
  logical = refl;
  least = refl;
  other_operator = refl;
  other_side = refl;
  itself = refl;
  seen = refl;
  other_tree = refl;
  declared = refl;
  left_of_choice = refl;
  filled = λ e f g. refl;
  kept = kept_is;
}
