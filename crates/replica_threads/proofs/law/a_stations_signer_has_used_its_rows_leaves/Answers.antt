use Rattle.std.proofs.Common.{map}
use Rattle.byz_world.proofs.Leaves.{signer_rows}
use Rattle.byz_world.specs.Core.{start_of}
use Rattle.byz_world.specs.Facts.{row_of}
use Rattle.byz_world.specs.Setup.{setup_of}
use Rattle.replica_threads.proofs.law.a_stations_signer_has_used_its_rows_leaves.Goals as goal

pub returns : goal.returns
returns c = λ config me signer j k running.
    (k.journal.last, k.running running, signer_rows (setup_of config) me (start_of (setup_of config) signer) k.journal.last (map row_of j.rows) k.journal.lawful)
