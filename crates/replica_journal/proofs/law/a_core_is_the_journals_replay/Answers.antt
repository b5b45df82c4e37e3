use Rattle.std.proofs.Common.{map}
use Rattle.pbft_model.specs.Core.{start_of}
use Rattle.pbft_model.proofs.Leaves.{signer_rows}
use Rattle.pbft_model.specs.Setup.{setup_of}
use Rattle.replica_core.specs.Facts.{row_of}
use Rattle.replica_journal.proofs.law.a_core_is_the_journals_replay.Goals as goal

pub returns : goal.returns
returns c = λ j k running.
    let setup = setup_of j.replica.config in
    record {
      journal = k.journal;
      core_is = k.running running;
      leaves = signer_rows setup j.replica.me (start_of setup k.journal.signer) k.journal.last (map row_of j.rows) k.journal.lawful;
    }
