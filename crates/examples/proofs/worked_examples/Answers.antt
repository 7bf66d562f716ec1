use Rattle.std.proofs.Common.{refl, lit≤}
use Prim.{tt}
use Rattle.examples.proofs.worked_examples.Goals as goal

pub returns-clause-examples : goal.returns-clause-examples
returns-clause-examples c = record {
  frame_18 = refl;
  four_intervals = refl;
  frame_4 = refl;
  one_interval = refl;
  many_intervals = refl;
  just_lawful = refl;
  too_many = refl;
  too_long = refl;
  accepted = refl;
  overfull = refl;
  wrong_total = refl;
  izl_three = refl;
  wrap_three = refl;
  full = record { limits = (lit≤ tt, lit≤ tt, lit≤ tt, lit≤ tt, lit≤ tt); narrow = (lit≤ tt, (lit≤ tt, tt)); room = lit≤ tt };
  izl_none = refl;
  wrap_none = refl;
  late_frame = refl;
  next_frame = refl;
}
