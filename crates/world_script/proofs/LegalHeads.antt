-- A script's head gives a legal configuration, whose keys are its signers'.
use Rattle.std.proofs.Common.{◌≡◌, ℕ, zero, suc, ◌+◌, ◌==◌, Bool, true, false, not, ◌&&◌, nat_le, nat_lt, List, [], ◌∷◌, length, map, Option, Some, None, Ok, Err, refl, sym, ap, subst, ◌∙◌, if◌then◌else◌}
use Rattle.std.specs.Prelude.{Result, is_none, is_some}
use Rattle.std.specs.List.{range_with_len}
use Rattle.std.proofs.lemmas.Bool.{and_parts, eqb-true, leb-true, true≢false}
use Rattle.std.proofs.lemmas.List.{length-map}
use Rattle.toml.specs.Data.{Members}
use Rattle.host_types.proofs.ClientLemmas.{legal}
use Rattle.host_types.specs.Configuration.{Configuration, IsConfiguration, fault_of, replicas_for, some_client_twice, too_many}
use Rattle.host_types.specs.declared.config.ClientEntry.{ClientEntry}
use Rattle.host_types.specs.declared.config.ConfigFault.{ConfigFault}
use Rattle.host_types.specs.declared.config.ConfigFault.TheVariants.{BadF, WrongReplicaCount, BadInterval, TooMany, DuplicateClient}
use Rattle.drained_records.specs.Worlds.{AreListed, correct_ids}
use Rattle.script_text.specs.Forms.{only_keys, pair_of, unknown_where, wrong_where}
use Rattle.script_text.specs.Heads.{HeadFacts, IsLegal, byte_of, head_from, head_in, head_keys, head_of, head_read, keyless, keyless_configuration, listed_clients, needed_head, optional_head}
use Rattle.script_text.specs.Scripts.{document, script_from, script_for, script_in, script_with, steps_in, listed_steps}
use Rattle.script_text.specs.Dialects.{head_for, names_faulty}
use Rattle.script_text.specs.declared.dialect.Dialect.{Dialect}
use Rattle.script_text.specs.declared.dialect.Dialect.TheVariants.{World, Seeded, Threads}
use Rattle.script_text.specs.ScriptFault.{ScriptFault}
use Rattle.script_text.specs.Client.{Client}
use Rattle.script_text.specs.declared.script.Script.{Script}
use Rattle.script_text.specs.declared.files.NamedFile.{NamedFile}
use Rattle.script_text.specs.declared.script.NamedStep.{NamedStep}
use Rattle.world_script.specs.Keys.{configuration_of, entry_of, replica_signer, replica_signers, unkeyed}
use Rattle.world_queue.specs.Parties.{key_of}
use Rattle.world_script.specs.Passing.{correct_signers}
use Rattle.world_script.specs.Starts.{is_faulty}
use Rattle.world_script.proofs.Legal.{no_fault}
use Rattle.world_script.proofs.Listed.{are_listed}

-- ---- a configuration with no fault is one

err_ok : {X E : Type 0} {e : E} {x : X} → Err e ≡ Ok x → ⊥
err_ok h = cc h

ok_is : {X E : Type 0} (x y : X) → ◌≡◌ {A = Result X E} (Ok x) (Ok y) → x ≡ y
ok_is x y h = cc h

must : (b : Bool) (fault : ConfigFault) (rest : Option ConfigFault) → (if not b then Some fault else rest) ≡ None → (b ≡ true) × (rest ≡ None)
must true fault rest h = (refl, h)
must false fault rest h = absurd (true≢false (ap is_some h))

must_not : (b : Bool) (fault : ConfigFault) (rest : Option ConfigFault) → (if b then Some fault else rest) ≡ None → (b ≡ false) × (rest ≡ None)
must_not true fault rest h = absurd (true≢false (ap is_some h))
must_not false fault rest h = (refl, h)

faultless : (c : Configuration) → fault_of c ≡ None → IsConfiguration c
faultless c h =
    let f = must (nat_le 1 c.f && nat_le c.f 3) BadF _ h in
    let n = must (length c.keys == replicas_for c.f) WrongReplicaCount _ f.1 in
    let k = must (nat_le 1 c.k && nat_le c.k 8) BadInterval _ n.1 in
    let many = must_not (too_many c.clients) TooMany _ k.1 in
    let twice = must_not (some_client_twice c.clients) DuplicateClient _ many.1 in
    let fs = and_parts (nat_le 1 c.f) (nat_le c.f 3) f.0 in
    let ks = and_parts (nat_le 1 c.k) (nat_le c.k 8) k.0 in
    legal c (leb-true 1 c.f fs.0) (leb-true c.f 3 fs.1) (eqb-true (length c.keys) (replicas_for c.f) n.0) (leb-true 1 c.k ks.0) (leb-true c.k 8 ks.1) many.0 twice.0

-- ---- the head of a script that is read

abbrev IsLegalHead : HeadFacts → Type 0
IsLegalHead h = IsLegal h.f h.k h.clients

no_fault_in : (o : Option ConfigFault) → is_none o ≡ true → o ≡ None
no_fault_in None h = refl
no_fault_in (Some fault) h = absurd (true≢false (sym h))

-- by cases, whatever the types
by_result : {X E : Type 0} (P : Result X E → Type 0) (r : Result X E) → ((x : X) → r ≡ Ok x → P (Ok x)) → ((e : E) → P (Err e)) → P r
by_result P (Ok x) one other = one x refl
by_result P (Err e) one other = other e

by_option : {X : Type 0} (P : Option X → Type 0) (o : Option X) → ((x : X) → P (Some x)) → P None → P o
by_option P (Some x) one none = one x
by_option P None one none = none

if_legal_is : {E : Type 0} (b : Bool) (g h : HeadFacts) (fault : E) → (b ≡ true → IsLegalHead g) → (if b then Ok g else Err fault) ≡ Ok h → IsLegalHead h
if_legal_is true g h fault known is = subst IsLegalHead (ok_is g h is) (known refl)
if_legal_is false g h fault known is = absurd (err_ok is)

abbrev is_faultless : HeadFacts → Bool
is_faultless g = is_none (fault_of (keyless_configuration g.f g.k g.clients))

head_legal : (members : Members) (h : HeadFacts) → head_in members ≡ Ok h → IsLegalHead h
head_legal members h =
    by_result (λ r. head_read r ≡ Ok h → IsLegalHead h)
    (only_keys (pair_of (needed_head members) (pair_of (optional_head members) (listed_clients members)))
    head_keys members)
    (λ r e.
    by_option (λ f. head_from f (byte_of r.0.k) r.0.secret r.1.0 r.1.1 ≡ Ok h → IsLegalHead h) (byte_of r.0.f)
    (λ f.
    by_option (λ k. head_from (Some f) k r.0.secret r.1.0 r.1.1 ≡ Ok h → IsLegalHead h) (byte_of r.0.k)
    (λ k is. if_legal_is (is_faultless (head_of f k r.0.secret r.1.0 r.1.1)) (head_of f k r.0.secret r.1.0 r.1.1) h _
    (no_fault_in (fault_of (keyless_configuration f k (head_of f k r.0.secret r.1.0 r.1.1).clients))) is)
    (λ is. absurd (err_ok is)))
    (λ is. absurd (err_ok is)))
    (λ fault is. absurd (err_ok is))

from_steps : (h : HeadFacts) (r : Result (List NamedStep) ScriptFault) (script : Script) → IsLegalHead h → script_from h r ≡ Ok script → IsLegalHead script.head
from_steps h (Ok xs) script known is = subst (λ (x : Script). IsLegalHead x.head) (ok_is _ script is) known
from_steps h (Err fault) script known is = absurd (err_ok is)

-- Nothing else is wrong with it.
not_wrong : (members : Members) (h : HeadFacts) (b : Bool) → wrong_where b (head_in members) ≡ Ok h → IsLegalHead h
not_wrong members h true =
    by_result (λ r. wrong_where true r ≡ Ok h → IsLegalHead h) (head_in members) (λ g e is. absurd (err_ok is)) (λ fault is. absurd (err_ok is))
not_wrong members h false = head_legal members h

not_unknown : (members : Members) (h : HeadFacts) (b c : Bool) → unknown_where c (wrong_where b (head_in members)) ≡ Ok h → IsLegalHead h
not_unknown members h b true =
    by_result (λ r. unknown_where true r ≡ Ok h → IsLegalHead h) (wrong_where b (head_in members)) (λ g e is. absurd (err_ok is)) (λ fault is. absurd (err_ok is))
not_unknown members h b false = not_wrong members h b

legal_for : (dialect : Dialect) (members : Members) (h : HeadFacts) → head_for dialect members ≡ Ok h → IsLegalHead h
legal_for World members h is = head_legal members h is
legal_for Seeded members h is = head_legal members h is
legal_for Threads members h is = not_unknown members h (names_faulty members) _ is

from_document : (dialect : Dialect) (files : List NamedFile) (o : Option Members) (script : Script) → script_in dialect files o ≡ Ok script → IsLegalHead script.head
from_document dialect files None script is = absurd (err_ok is)
from_document dialect files (Some members) script is =
    by_result (λ r. script_with dialect files members r ≡ Ok script → IsLegalHead script.head) (head_for dialect members)
    (λ h e is. from_steps h (steps_in dialect files h (listed_steps members)) script (legal_for dialect members h e) is) (λ fault is. absurd (err_ok is)) is

if_short : (b : Bool) (fault : ScriptFault) (dialect : Dialect) (files : List NamedFile) (o : Option Members) (script : Script) → (if b then Err fault else script_in dialect files o) ≡ Ok script → IsLegalHead script.head
if_short true fault dialect files o script is = absurd (err_ok is)
if_short false fault dialect files o script is = from_document dialect files o script is

pub script_legal : (dialect : Dialect) (files : List NamedFile) (input : List ℕ) (script : Script) → script_for dialect files input ≡ Ok script → IsLegal script.head.f script.head.k script.head.clients
script_legal dialect files input script is = if_short (nat_lt 1048576 (length input)) _ dialect files (document input) script is

-- ---- its configuration

so_many : (first n : ℕ) → length (range_with_len first n) ≡ n
so_many first zero = refl
so_many first (suc n) = ap suc (so_many (first + 1) n)

pub a_signer_each : (h : HeadFacts) → length (replica_signers h) ≡ replicas_for h.f
a_signer_each h = length-map (range_with_len 0 (replicas_for h.f)) (replica_signer h) ∙ so_many 0 (replicas_for h.f)

without_keys : (h : HeadFacts) (cs : List Client) → map unkeyed (map (entry_of h) cs) ≡ map keyless cs
without_keys h [] = refl
without_keys h (c ∷ cs) = ap (λ (es : List ClientEntry). keyless c ∷ es) (without_keys h cs)

pub head_configuration : (h : HeadFacts) → IsLegal h.f h.k h.clients → IsConfiguration (configuration_of h)
head_configuration h known =
    faultless (configuration_of h)
    (no_fault h.f h.k h.clients (map key_of (replica_signers h)) (map (entry_of h) h.clients) known (length-map (replica_signers h) key_of ∙ a_signer_each h) (without_keys h h.clients))

pub head_listed : (h : HeadFacts) → AreListed (configuration_of h) (correct_ids (configuration_of h) (is_faulty h)) (correct_signers h)
head_listed h = are_listed (configuration_of h) (is_faulty h) (replica_signers h) (correct_signers h) (a_signer_each h) refl refl
