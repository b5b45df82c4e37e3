-- Statement: the lines that a script prints of messages.
use Rattle.std.specs.Prelude.{ℕ, List, ◌++◌, codes, decimal, Option, Some, None}
use Rattle.host_types.specs.declared.ReplicaId.{ReplicaId}
use Rattle.host_types.specs.declared.request.Reply.{Reply}
use Rattle.hex.specs.Hex.{encode_lower}
use Rattle.seal.specs.Faults as faults
use Rattle.seal.specs.declared.fault.SealFault.{SealFault}
use Rattle.script_text.specs.Kinds.{kind_text}
use Rattle.script_text.specs.Nodes.{node_text}
use Rattle.script_text.specs.Kind.{Kind}
use Rattle.world_queue.specs.Letters.{LetterFacts}

-- what a client has accepted
abbrev pub reply_line : Reply → List ℕ
reply_line r =
    codes "client " ++ (decimal r.client.0 ++ (codes " time " ++ (decimal r.time ++ (codes " number " ++ (decimal r.number.0
    ++ (codes " result " ++ (encode_lower r.result ++ codes "\n")))))))

-- why a replica refuses bytes
abbrev pub refusal_line : ReplicaId → SealFault → List ℕ
refusal_line id fault = codes "refused " ++ (decimal id.0 ++ (codes " " ++ (faults.name_of fault ++ codes "\n")))

abbrev pub nothing_queued_line : List ℕ
nothing_queued_line = codes "nothing queued\n"

-- ---- what `queue` prints

abbrev pub kind_or_dash : Option Kind → List ℕ
kind_or_dash None = codes "-"
kind_or_dash (Some kind) = kind_text kind

-- a letter: its sender, its addressee, its kind and its bytes
abbrev pub letter_line : LetterFacts → List ℕ
letter_line l =
    codes "queue " ++ (node_text l.from ++ (codes " " ++ (node_text (Some l.to) ++ (codes " " ++ (kind_or_dash l.kind
    ++ (codes " " ++ (encode_lower l.bytes ++ codes "\n")))))))
