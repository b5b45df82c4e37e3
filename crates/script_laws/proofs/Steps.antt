-- A step prints one text, and leads to one stage, but for what the protocol's rows leave open of a row.
use Rattle.std.proofs.Common.{◌≡◌, ℕ, ◌<◌, ◌⊎◌, inl, inr, List, [], ◌∷◌, ◌++◌, length, Option, Some, None, refl, sym, ap, subst, ◌∙◌, arith}
use Rattle.std.specs.Prelude.{slice_get}
use Rattle.std.proofs.lemmas.Bool.{cases_order}
use Rattle.std.specs.Option.{option_map}
use Rattle.host_types.specs.Configuration.{Configuration}
use Rattle.host_types.specs.declared.ClientId.{ClientId}
use Rattle.pbft_codec.specs.declared.body.Body.{Body}
use Rattle.script_text.specs.Node.TheVariants.{Replica, Client}
use Rattle.script_text.specs.declared.script.DeliveryOrder.{DeliveryOrder}
use Rattle.script_text.specs.declared.script.Filter.{Filter}
use Rattle.script_text.specs.declared.script.ForgedMessage.{ForgedMessage}
use Rattle.script_text.specs.declared.script.ForgedMessage.TheVariants as forged
use Rattle.script_text.specs.declared.script.Forgery.{Forgery}
use Rattle.script_text.specs.declared.script.NamedStep.{NamedStep}
use Rattle.script_text.specs.declared.script.Order.{Order}
use Rattle.script_text.specs.declared.script.Printout.TheVariants as printouts
use Rattle.script_text.specs.declared.script.QueueEdit.{QueueEdit}
use Rattle.script_text.specs.declared.script.QueueEdit.TheVariants as edits
use Rattle.script_text.specs.declared.script.Step.{Step}
use Rattle.script_text.specs.declared.script.Step.TheVariants as steps
use Rattle.world_script.specs.Letters.{LetterFacts, copies, first_meant, letter_of}
use Rattle.world_script.specs.Parties.{after_asking, after_forging, at_first, forged_message, is_forger, is_of, signing_forger, signing_session, vote_body}
use Rattle.world_script.specs.Sessions.{SessionState, next_request}
use Rattle.world_script.specs.Forger.{Forger}
use Rattle.world_script.specs.Named.{Named}
use Rattle.world_script.specs.Edits.{Edited, edited}
use Rattle.world_script.specs.Facts.{StageFacts}
use Rattle.world_script.specs.Stages.{Deliveries, Overruns, Prints, digest_named, forged_body, forged_by, forged_for, forges, made_by, max_deliveries, message_of, after_naming, receivers, requested, requested_by, with_named, with_queue}
use Rattle.world_script.specs.declared.made.Made.{Made}
use Rattle.script_laws.proofs.Printouts.{shows_alike}
use Rattle.script_laws.proofs.Stages.{Like, Printed, SameTurn, all_time_out_like, deliveries_like, none_more, turned}

-- ---- requests and forged messages

requested_alike : (s t : StageFacts) (o : Order) → Like s t → (x : Option SessionState) → SameTurn (requested_by s o x) (requested_by t o x)
requested_alike s t o like None = record { text = refl; stages = like }
requested_alike s t o like (Some session) = record {
  text = refl;
  stages = record {
    worlds = like.worlds;
    forgers = like.forgers;
    sessions = ap (at_first (is_of o.client) (after_asking o.op)) like.sessions;
    made = ap (λ (ms : List Made). ms ++ made_by o.client session o.op ∷ []) like.made;
    named = like.named;
    queue = ap (λ (ls : List LetterFacts). ls ++ copies (letter_of (Client o.client) (next_request session o.op)) (receivers s.world.config o.to)) like.queue
        ∙ ap (λ (c : Configuration). t.queue ++ copies (letter_of (Client o.client) (next_request session o.op)) (receivers c o.to)) like.worlds.config;
  };
}

requests_alike : (s t : StageFacts) (o : Order) → Like s t → SameTurn (requested s o) (requested t o)
requests_alike s t o like =
    subst (λ (x : Option SessionState). SameTurn (requested s o) (requested_by t o x)) (ap (λ (ss : List SessionState). signing_session ss o.client) like.sessions)
    (requested_alike s t o like (signing_session s.sessions o.client))

forged_alike : (s t : StageFacts) (f : Forgery) (body : Body) → Like s t → (x : Option Forger) → SameTurn (forged_by s f body x) (forged_by t f body x)
forged_alike s t f body like None = record { text = refl; stages = like }
forged_alike s t f body like (Some g) = record {
  text = refl;
  stages = record {
    worlds = like.worlds;
    forgers = ap (at_first (is_forger f.from) after_forging) like.forgers;
    sessions = like.sessions;
    made = like.made;
    named = like.named;
    queue = ap (λ (ls : List LetterFacts). ls ++ copies (letter_of (Replica f.from) (forged_message g.signer f body)) f.to) like.queue;
  };
}

forged_for_alike : (s t : StageFacts) (f : Forgery) → Like s t → (b : Option Body) → SameTurn (forged_for s f b) (forged_for t f b)
forged_for_alike s t f like None = record { text = refl; stages = like }
forged_for_alike s t f like (Some body) =
    subst (λ (x : Option Forger). SameTurn (forged_by s f body (signing_forger s.forgers f.from)) (forged_by t f body x)) (ap (λ (gs : List Forger). signing_forger gs f.from) like.forgers)
    (forged_alike s t f body like (signing_forger s.forgers f.from))

bodies_alike : (s t : StageFacts) → Like s t → (m : ForgedMessage) → forged_body s m ≡ forged_body t m
bodies_alike s t like (forged.Vote v) = ap (λ (ms : List Made). forged_body (record s { made = ms }) (forged.Vote v)) like.made ∙ named v.request where
  named : (request : Option (ClientId × ℕ)) → option_map (vote_body v.kind v) (digest_named (record s { made = t.made }) request) ≡ option_map (vote_body v.kind v) (digest_named t request)
  named None = refl
  named (Some x) = refl
bodies_alike s t like (forged.Checkpoint number digest) = refl
bodies_alike s t like (forged.ViewChange view) = refl

forges_alike : (s t : StageFacts) (f : Forgery) → Like s t → SameTurn (forges s f) (forges t f)
forges_alike s t f like = subst (λ (b : Option Body). SameTurn (forges s f) (forged_for t f b)) (bodies_alike s t like f.message) (forged_for_alike s t f like (forged_body s f.message))

-- ---- edits of the queue

edited_alike : (s t : StageFacts) → Like s t → (e : QueueEdit) → edited s e ≡ edited t e
edited_alike s t like (edits.Drop f) = ap (λ (ls : List LetterFacts). edited (record s { queue = ls }) (edits.Drop f)) like.queue
edited_alike s t like (edits.Repeat f) = ap (λ (ls : List LetterFacts). edited (record s { queue = ls }) (edits.Repeat f)) like.queue
edited_alike s t like (edits.Mangle f damage) = ap (λ (ls : List LetterFacts). edited (record s { queue = ls }) (edits.Mangle f damage)) like.queue
edited_alike s t like (edits.Raw to payload) =
    ap (λ (ls : List LetterFacts). edited (record s { queue = ls }) (edits.Raw to payload)) like.queue
    ∙ ap (λ (ns : List Named). edited (record s { queue = t.queue; named = ns }) (edits.Raw to payload)) like.named

queued_alike : (s t : StageFacts) → Like s t → (e : Edited) → SameTurn (with_queue s e) (with_queue t e)
queued_alike s t like e = record {
  text = refl;
  stages = record { worlds = like.worlds; forgers = like.forgers; sessions = like.sessions; made = like.made; named = like.named; queue = refl };
}

edits_alike : (s t : StageFacts) (e : QueueEdit) → Like s t → SameTurn (with_queue s (edited s e)) (with_queue t (edited t e))
edits_alike s t e like = subst (λ (x : Edited). SameTurn (with_queue s (edited s e)) (with_queue t x)) (edited_alike s t like e) (queued_alike s t like (edited s e))

-- ---- deliveries

pub backwards : (s t : StageFacts) → Like s t → Like t s
backwards s t like = record {
  worlds = record { config = sym like.worlds.config; members = sym like.worlds.members };
  forgers = sym like.forgers;
  sessions = sym like.sessions;
  made = sym like.made;
  named = sym like.named;
  queue = sym like.queue;
}

module _ (f : Filter) (order : DeliveryOrder) (s s' : StageFacts) (like : Like s s') where
  all_delivered : (n m : ℕ) (t u : StageFacts) (text other : List ℕ) → Deliveries f order n s text t → first_meant f t.queue ≡ None → Deliveries f order m s' other u → first_meant f u.queue ≡ None
      → Printed text other t u
  all_delivered n m t u text other g none h none' = by (cases_order n m) where
    by : (n ≡ m) ⊎ ((n < m) ⊎ (m < n)) → Printed text other t u
    by (inl same) = deliveries_like f order n s s' t u text other like g (subst (λ (k : ℕ). Deliveries f order k s' other u) (sym same) h)
    by (inr (inl less)) = absurd (none_more f order n m s s' t u text other like less g none h)
    by (inr (inr less)) = absurd (none_more f order m n s' s u t other text (backwards s s' like) less h none' g)

-- ---- all of them

pub prints_alike : (step : Step) (s s' t u : StageFacts) (text other : List ℕ) → Like s s' → Prints s step text t → Prints s' step other u → Printed text other t u
prints_alike (steps.Request o) s s' t u text other like g h = turned (requested s o) (requested s' o) text other t u (requests_alike s s' o like) g h
prints_alike (steps.Deliver f order) s s' t u text other like (n, most, g, none) (m, most', h, none') = all_delivered f order s s' like n m t u text other g none h none'
prints_alike (steps.Timeout ids) s s' t u text other like g h = record { text = g.0 ∙ sym h.0; stages = all_time_out_like ids s s' t u like g.1 h.1 }
prints_alike (steps.Forge f) s s' t u text other like g h = turned (forges s f) (forges s' f) text other t u (forges_alike s s' f like) g h
prints_alike (steps.Edit e) s s' t u text other like g h = turned (with_queue s (edited s e)) (with_queue s' (edited s' e)) text other t u (edits_alike s s' e like) g h
prints_alike (steps.Print p) s s' t u text other like g h = record {
  text = shows_alike s s' like p text other g.0 h.0;
  stages = subst (λ (x : StageFacts). Like x u) (sym g.1) (subst (λ (x : StageFacts). Like s x) (sym h.1) like);
}
prints_alike (steps.Expect expected) s s' t u text other like g h = record {
  text = g.0 ∙ sym h.0;
  stages = subst (λ (x : StageFacts). Like x u) (sym g.1) (subst (λ (x : StageFacts). Like s x) (sym h.1) like);
}

-- A step that has too many deliveries has one text, and prints none whole.
pub overruns_alike : (step : Step) (s s' : StageFacts) (text other : List ℕ) → Like s s' → Overruns s step text → Overruns s' step other → text ≡ other
overruns_alike (steps.Deliver f order) s s' text other like g h = (deliveries_like f order max_deliveries s s' g.0 h.0 text other like g.1 h.1).text
overruns_alike (steps.Request o) s s' text other like g h = absurd g
overruns_alike (steps.Timeout ids) s s' text other like g h = absurd g
overruns_alike (steps.Forge f) s s' text other like g h = absurd g
overruns_alike (steps.Edit e) s s' text other like g h = absurd g
overruns_alike (steps.Print p) s s' text other like g h = absurd g
overruns_alike (steps.Expect expected) s s' text other like g h = absurd g

pub prints_or_overruns : (step : Step) (s s' t : StageFacts) (text other : List ℕ) → Like s s' → Prints s step text t → Overruns s' step other → ⊥
prints_or_overruns (steps.Deliver f order) s s' t text other like (n, most, g, none) (u, h, more) = by (cases_order n max_deliveries) where
  by : (n ≡ max_deliveries) ⊎ ((n < max_deliveries) ⊎ (max_deliveries < n)) → ⊥
  by (inl same) =
      let one = deliveries_like f order n s s' t u text other like g (subst (λ (k : ℕ). Deliveries f order k s' other u) (sym same) h) in
      more (ap (first_meant f) (sym one.stages.queue) ∙ none)
  by (inr (inl less)) = none_more f order n max_deliveries s s' t u text other like less g none h
  by (inr (inr less)) = absurd (omega (arith, less, most))
prints_or_overruns (steps.Request o) s s' t text other like g h = absurd h
prints_or_overruns (steps.Timeout ids) s s' t text other like g h = absurd h
prints_or_overruns (steps.Forge f) s s' t text other like g h = absurd h
prints_or_overruns (steps.Edit e) s s' t text other like g h = absurd h
prints_or_overruns (steps.Print p) s s' t text other like g h = absurd h
prints_or_overruns (steps.Expect expected) s s' t text other like g h = absurd h

-- ---- names

named_alike : (name : Option (List ℕ)) (l : Option LetterFacts) (s t : StageFacts) → Like s t → Like (with_named s name l) (with_named t name l)
named_alike None l s t like = like
named_alike (Some name) None s t like = like
named_alike (Some name) (Some letter) s t like = record {
  worlds = like.worlds;
  forgers = like.forgers;
  sessions = like.sessions;
  made = like.made;
  named = ap (λ (ns : List Named). ns ++ record { name = name; letter = letter } ∷ []) like.named;
  queue = like.queue;
}

messages_alike : (n : ℕ) (step : Step) (s t : StageFacts) → Like s t → message_of n step s ≡ message_of n step t
messages_alike n (steps.Print (printouts.Queue f)) s t like = ap (first_meant f) like.queue
messages_alike n (steps.Print printouts.Show) s t like = ap (λ (ls : List LetterFacts). slice_get ls n) like.queue
messages_alike n (steps.Print printouts.Digest) s t like = ap (λ (ls : List LetterFacts). slice_get ls n) like.queue
messages_alike n (steps.Print (printouts.State id)) s t like = ap (λ (ls : List LetterFacts). slice_get ls n) like.queue
messages_alike n (steps.Print (printouts.Upgrade bytes)) s t like = ap (λ (ls : List LetterFacts). slice_get ls n) like.queue
messages_alike n (steps.Print printouts.Audit) s t like = ap (λ (ls : List LetterFacts). slice_get ls n) like.queue
messages_alike n (steps.Print printouts.Drained) s t like = ap (λ (ls : List LetterFacts). slice_get ls n) like.queue
messages_alike n (steps.Request o) s t like = ap (λ (ls : List LetterFacts). slice_get ls n) like.queue
messages_alike n (steps.Deliver f order) s t like = ap (λ (ls : List LetterFacts). slice_get ls n) like.queue
messages_alike n (steps.Timeout ids) s t like = ap (λ (ls : List LetterFacts). slice_get ls n) like.queue
messages_alike n (steps.Forge f) s t like = ap (λ (ls : List LetterFacts). slice_get ls n) like.queue
messages_alike n (steps.Edit e) s t like = ap (λ (ls : List LetterFacts). slice_get ls n) like.queue
messages_alike n (steps.Expect expected) s t like = ap (λ (ls : List LetterFacts). slice_get ls n) like.queue

pub naming_alike : (x : NamedStep) (before before' : List LetterFacts) (s t : StageFacts) → before ≡ before' → Like s t → Like (after_naming (length before) x s) (after_naming (length before') x t)
naming_alike x before before' s t same like =
    subst (λ (l : Option LetterFacts). Like (after_naming (length before) x s) (with_named t x.name l))
    (messages_alike (length before) x.step s t like ∙ ap (λ (ls : List LetterFacts). message_of (length ls) x.step t) same)
    (named_alike x.name (message_of (length before) x.step s) s t like)
