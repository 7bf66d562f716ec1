use Rattle.izl_rule.proofs.Loading.{load_sound}
use Rattle.izl.proofs.Telling.{told_loaded, serves}
use Rattle.izl.proofs.state.Izl.take_load.Goals as goal

pub invariant_of-self-inside : goal.invariant_of-self-inside
invariant_of-self-inside c = rw c.begin.ensures (load_sound _ _ _ c.requires, tt)

pub returns : goal.returns
returns c =
    let l = told_loaded c.args.self.now _ c.args.width c.args.length c.args.shares.now c.requires c.begin.ensures in
    record { loaded = l; serves = serves c.args.self.now _ c.args.width c.args.length c.args.shares.now l }
