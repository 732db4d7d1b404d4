-- An accepted request meets what its transaction's standing and its cue have to be.
use Rattle.boosting.proofs.Accepted.{accepted_standing}
use Rattle.boosting.specs.Rows.{roll_back}
use Rattle.store.proofs.Rows.{no_cue}
use Rattle.store.proofs.Store.perform_known.Goals as goal

pub roll_back-requires : goal.roll_back-requires
roll_back-requires c = accepted_standing _ _ roll_back (rw c.in-RollBack.is at c.requires.accepted)

pub returns-in-OnObject-None-clause-store : goal.returns-in-OnObject-None-clause-store
returns-in-OnObject-None-clause-store c =
    no_cue c.args.self.now c.args.e c.args.action c.in-OnObject-None.field-0 c.requires.accepted c.in-OnObject-None.is (rw c.in-OnObject-None.is at c.in-OnObject-None.field-0-is)

pub returns-in-OnObject-None-clause-answer : goal.returns-in-OnObject-None-clause-answer
returns-in-OnObject-None-clause-answer c =
    no_cue c.args.self.now c.args.e c.args.action c.in-OnObject-None.field-0 c.requires.accepted c.in-OnObject-None.is (rw c.in-OnObject-None.is at c.in-OnObject-None.field-0-is)
