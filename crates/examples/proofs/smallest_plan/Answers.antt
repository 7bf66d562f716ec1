use Rattle.std.proofs.Common.{refl}
use Rattle.wrap.specs.Told.{told}
use Rattle.examples.proofs.Smallest.{launched, is_lawful, runs}
use Rattle.examples.proofs.smallest_plan.Goals as goal

pub unwrap-requires : goal.unwrap-requires
unwrap-requires c = runs told c.new.result c.launch_smallest.result c.launch_smallest.ensures

pub returns : goal.returns
returns c =
    let p = launched told c.new.result (rw c.unwrap.ensures at c.launch_smallest.ensures) in
    let l = p.3 in
    let lawful = l.lawful.to (is_lawful p.0 p.1 p.2) in
    record {
      card = p.0;
      sheet = p.1;
      file = p.2;
      lawful = lawful;
      placed = (l.agrees lawful).to refl;
      held = l.judgement.1;
      scheduler = c.new.result;
      new = c.new.ensures;
      promise = l.promise;
    }
