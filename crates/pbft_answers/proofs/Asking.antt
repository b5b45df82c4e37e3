-- What the correct primary of view 0 received it proposed, where it has room, or it is new no more.
use Rattle.std.proofs.Common.{◌≡◌, ◌⊎◌, ℕ, ◌+◌, ◌≤◌, Bool, true, false, ◌&&◌, cond, List, [], ◌∷◌, Option, Some, None, refl, sym, ap, subst, ◌∙◌, inl, inr}
use Rattle.std.specs.Prelude.{is_some, bytes_eq, find, nat_lt, nat_le, not, ◌==◌}
use Rattle.std.proofs.lemmas.Bool.{true≢false, false≢true, and_from, eq-eqb, le-leb, not_from_false}
use Rattle.std.proofs.lemmas.Slice.Eq.{bytes_eq-Decides}
use Rattle.pbft_model.specs.Words.{Signed, Body, RequestBody, Request, Reply, PrePrepare, Part, as_message}
use Rattle.pbft_codec.specs.declared.body.Body.TheVariants as bodies
use Rattle.pbft_model.specs.Sequential.{Service, last_reply_of}
use Rattle.pbft_model.specs.Setup.{Setup, primary, span, digest_of, number_limit, request_in}
use Rattle.pbft_model.specs.Certificates.{Fields}
use Rattle.pbft_model.specs.Core.{Core, start_of, held_with, is_named, is_later, is_new, is_proposed, next_number}
use Rattle.pbft_model.specs.Acts.{Act, All, Take, Timeout, Send, Relay, Enter, Rise, Execute, Install}
use Rattle.pbft_model.specs.Rules.{pre_prepare_of}
use Rattle.pbft_model.specs.Duties.{Duty, WornOut, say, leads, propose, due_propose}
use Rattle.pbft_model.specs.Histories.{core_after, IsEarlier, IsIn, HasTaken}
use Rattle.pbft_model.specs.Families.{IsCorrect}
use Rattle.pbft_agreement.specs.Journals.{Journals, HasReceived, ComesTo, IsHonestFamily}
use Rattle.pbft_progress.specs.Progress.{EachEnds}
use Rattle.pbft_progress.specs.Votes.{HasProposed}
use Rattle.pbft_model.proofs.Found.{no_some}
use Rattle.pbft_model.proofs.Events.{now, before, history_at, taken_at}
use Rattle.pbft_model.proofs.Origins.{executed_up}
use Rattle.pbft_model.proofs.Holdings.{from_find, held_taken}
use Rattle.pbft_agreement.proofs.Reporting.{one_core}
use Rattle.pbft_answers.proofs.Kin.{family, told}
use Rattle.pbft_answers.proofs.Speaking.{first_then}
use Rattle.pbft_answers.proofs.Deciding.{last, rests}
use Rattle.pbft_answers.proofs.Proposing.{Signs, noted_signs}
use Rattle.pbft_answers.proofs.Holding.{IsHeld, StaysNew, take_held, held_on}
use Rattle.pbft_answers.proofs.Listing.{IsTakenBy, same_request, renewed}
use Rattle.pbft_answers.proofs.Ordering.{find_in, proposed_named}

later_alike : (p m : Signed RequestBody) (o : Option Reply) → p.body.time ≡ m.body.time → is_later m o ≡ true → is_later p o ≡ true
later_alike p m None time e = refl
later_alike p m (Some last) time e = subst (λ (t : ℕ). nat_lt last.time t ≡ true) (sym time) e

new_alike : (s : Service) (p m : Signed RequestBody) → request_in p ≡ request_in m → is_new s m ≡ true → is_new s p ≡ true
new_alike s p m same e =
    let id : p.id ≡ m.id = ap (λ (r : Request). r.client.0) same in
    let time : p.body.time ≡ m.body.time = ap (λ (r : Request). r.time) same in
    subst (λ (q : ℕ). is_later p (last_reply_of s q) ≡ true) (sym id) (later_alike p m (last_reply_of s m.id) time e)

if_so : (b : Bool) (o : Option Duty) → b ≡ true → cond b o None ≡ None → o ≡ None
if_so true o t e = e
if_so false o t e = absurd (false≢true t)

-- with room, what is first is proposed
propose_none : (c : Setup) (me : ℕ) (s : Core) (o : Option (Signed RequestBody)) → nat_le (next_number s) (s.low + span c.config) ≡ true → propose c me s o ≡ None → o ≡ None
propose_none c me s None room e = refl
propose_none c me s (Some m) room e = no_some _ (sym (if_so (nat_le (next_number s) (s.low + span c.config))
    (Some (cond (next_number s == number_limit) WornOut (say me s All (bodies.PrePrepare (pre_prepare_of (record { view = s.view; number = next_number s; digest = digest_of c m })))))) room e))

module _ (c : Setup) (j : Journals) (h : IsHonestFamily c j) (first : EachEnds c j (λ i s. s.view ≡ 0)) (leader : IsCorrect c j.faulty (primary c.config 0)) where
  abbrev all : List Act
  all = (family c j h).acts (primary c.config 0)

  abbrev core : List Act → Core
  core acts = core_after c (j.signer (primary c.config 0)) acts

  -- what is new at a point was new before
  new_then : (x : Signed RequestBody) (acts zs : List Act) → IsEarlier acts zs → IsEarlier zs all → is_new (core zs).service x ≡ true → is_new (core acts).service x ≡ true
  new_then x acts [] at point new = subst (λ (y : List Act). is_new (core y).service x ≡ true) (sym at) new
  new_then x acts (a ∷ zs) (inl same) point new = subst (λ (y : List Act). is_new (core y).service x ≡ true) (sym same) new
  new_then x acts (a ∷ zs) (inr at) point new =
      let lead = primary c.config 0 in
      let ok = (history_at c lead (j.signer lead) (a ∷ zs) all point (told c j h lead leader).is).1 in
      new_then x acts zs at (before a zs all point) (renewed c j h first leader lead leader zs a (before a zs all point) point (executed_up c lead (core zs) a ok) x new)

  stays : (m : Signed RequestBody) → HasTaken (as_message bodies.Request m) all → is_new (core all).service m ≡ true → (a : Act) (early : List Act) → IsEarlier (a ∷ early) all → StaysNew c (digest_of c m) (core early) a
  stays m taken new (Rise n d) early at = λ p within same.
      let lead = primary c.config 0 in
      let p_taken = held_taken c lead (j.signer lead) all (told c j h lead leader).is early (before (Rise n d) early all at) p within in
      new_alike (core early).service p m (same_request c j h first leader p m (lead, leader, p_taken) (lead, leader, taken) same) (new_then m early all (before (Rise n d) early all at) (now all) new)
  stays m taken new (Install n b t) early at = λ p within same.
      let lead = primary c.config 0 in
      let p_taken = held_taken c lead (j.signer lead) all (told c j h lead leader).is early (before (Install n b t) early all at) p within in
      new_alike t p m (same_request c j h first leader p m (lead, leader, p_taken) (lead, leader, taken) same) (new_then m (Install n b t ∷ early) all at (now all) new)
  stays m taken new (Take q r) early at = tt
  stays m taken new Timeout early at = tt
  stays m taken new (Send to q) early at = tt
  stays m taken new (Relay to q) early at = tt
  stays m taken new (Enter q) early at = tt
  stays m taken new (Execute n d t o) early at = tt

  some_found : (o : Option (Signed RequestBody)) → is_some o ≡ true → (p : Signed RequestBody) × (o ≡ Some p)
  some_found None e = absurd (false≢true e)
  some_found (Some p) e = (p, refl)

  -- Each request that it received is new no more, or proposed, where there is room.
  asked_last : (m : Signed RequestBody) → HasReceived (as_message bodies.Request m) (j.rows (primary c.config 0)) → next_number (core all) ≤ (core all).low + span c.config
      → (is_new (core all).service m ≡ false) ⊎ ((x : Fields) × (x.digest ≡ digest_of c m) × HasProposed x (j.rows (primary c.config 0)))
  asked_last m received room = split (is_new (core all).service m) refl where
    split : (b : Bool) → is_new (core all).service m ≡ b → (is_new (core all).service m ≡ false) ⊎ ((x : Fields) × (x.digest ≡ digest_of c m) × HasProposed x (j.rows (primary c.config 0)))
    split false old = inl old
    split true new =
        let lead = primary c.config 0 in
        let t = told c j h lead leader in
        let s = core all in
        let w = t.takes (as_message bodies.Request m) received in
        let taken = taken_at (as_message bodies.Request m) w.reading w.early all w.point in
        let held : IsHeld c (digest_of c m) s = held_on c (j.signer lead) (digest_of c m) (Take (as_message bodies.Request m) w.reading ∷ w.early) all w.point (stays m taken new) (take_held c (core w.early) m w.reading) in
        let p = some_found (held_with c s.held (digest_of c m)) held in
        let found = from_find (is_named c (digest_of c m)) s.held p.0 p.1 in
        let named = (bytes_eq-Decides (digest_of c p.0) (digest_of c m)).0 found.1 in
        let p_taken = held_taken c lead (j.signer lead) all t.is all (now all) p.0 found.0 in
        let p_new = new_alike s.service p.0 m (same_request c j h first leader p.0 m (lead, leader, p_taken) (lead, leader, taken) named) new in
        let view = first_then c j h first lead leader all (now all) in
        let leading : (s.active && leads c lead s) ≡ true = and_from s.active (leads c lead s) view.1 (eq-eqb (primary c.config s.view) lead (ap (primary c.config) view.0)) in
        let quiet = if_so (s.active && leads c lead s) (propose c lead s (find (λ r. is_new s.service r && not (is_proposed s (digest_of c r))) s.held)) leading (rests c j h first leader lead leader).before_executing.propose in
        let nothing = propose_none c lead s (find (λ r. is_new s.service r && not (is_proposed s (digest_of c r))) s.held) (le-leb (next_number s) (s.low + span c.config) room) quiet in
        proposed p.0 found.0 p_new nothing named (is_proposed s (digest_of c p.0)) refl where
          proposed : (p : Signed RequestBody) → IsIn p (core all).held → is_new (core all).service p ≡ true → find (λ r. is_new (core all).service r && not (is_proposed (core all) (digest_of c r))) (core all).held ≡ None
              → digest_of c p ≡ digest_of c m → (b : Bool) → is_proposed (core all) (digest_of c p) ≡ b → (is_new (core all).service m ≡ false) ⊎ ((x : Fields) × (x.digest ≡ digest_of c m) × HasProposed x (j.rows (primary c.config 0)))
          proposed p within p_new nothing named false e =
              let test : Signed RequestBody → Bool = λ r. is_new (core all).service r && not (is_proposed (core all) (digest_of c r)) in
              let some = find_in test (core all).held p within (and_from (is_new (core all).service p) (not (is_proposed (core all) (digest_of c p))) p_new (not_from_false (is_proposed (core all) (digest_of c p)) e)) in
              absurd (true≢false (sym some ∙ ap is_some nothing))
          proposed p within p_new nothing named true e =
              let z = proposed_named c j h first leader all (now all) (digest_of c p) e in
              let signs = noted_signs c j h first leader all (now all) z.0 z.1 in
              let gives = (told c j h (primary c.config 0) leader).gives signs.0 signs.2 in
              inr (z.0, z.2 ∙ named, (signs.1, (signs.0, gives, signs.3), signs.4))

  pub asked : (m : Signed RequestBody) → HasReceived (as_message bodies.Request m) (j.rows (primary c.config 0)) → (s : Core) → ComesTo c j (primary c.config 0) (j.rows (primary c.config 0)) s → next_number s ≤ s.low + span c.config
      → (is_new s.service m ≡ false) ⊎ ((x : Fields) × (x.digest ≡ digest_of c m) × HasProposed x (j.rows (primary c.config 0)))
  asked m received s comes room =
      let lead = primary c.config 0 in
      let t = told c j h lead leader in
      let same : core all ≡ s = t.core_is ∙ one_core c lead (j.signer lead) (j.rows lead) (start_of c (j.signer lead)) t.core s t.comes comes in
      subst (λ (x : Core). next_number x ≤ x.low + span c.config → (is_new x.service m ≡ false) ⊎ ((y : Fields) × (y.digest ≡ digest_of c m) × HasProposed y (j.rows (primary c.config 0)))) same (asked_last m received) room
