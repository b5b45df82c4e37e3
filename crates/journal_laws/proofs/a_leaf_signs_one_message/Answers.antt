-- As `LeafOnce.antt` has it.
use Rattle.journal_laws.proofs.LeafOnce.{in_rows, journal_spread}
use Rattle.journal_laws.proofs.a_leaf_signs_one_message.Goals as goal

pub returns-clause-once : goal.returns-clause-once
returns-clause-once c = λ setup me signer rows last w m n h k e.
    (journal_spread setup me signer rows last w).apart m n (in_rows setup me signer m rows h) (in_rows setup me signer n rows k) e

pub returns-clause-within : goal.returns-clause-within
returns-clause-within c = λ setup me signer rows last w m h.
    let spread = journal_spread setup me signer rows last w in
    let within = in_rows setup me signer m rows h in
    (spread.above m within, spread.below m within)
