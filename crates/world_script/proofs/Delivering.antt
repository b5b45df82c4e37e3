-- A delivery from a queue whose first letters were passed over.
use Rattle.std.proofs.Common.{◌≡◌, ℕ, suc, ◌+◌, ◌<◌, ◌≤◌, Bool, true, false, List, [], ◌++◌, length, Option, Some, None, Result, Ok, Err, refl, sym, ap, subst, ◌∙◌, arith}
use Rattle.std.specs.Prelude.{IfNone, IsErrAnd, String, is_some}
use Rattle.std.specs.String.{string_bytes}
use Rattle.std.specs.declared.alloc.Global.{Global}
use Rattle.std.proofs.lemmas.List.{append-nil, append_assoc}
use Rattle.world_queue.proofs.Lists.{first_splits, keeps_all, none_meant, some_meant}
use Rattle.host_types.specs.Configuration.{replicas_for}
use Rattle.host_types.specs.declared.ClientId.{ClientId}
use Rattle.host_types.specs.declared.ReplicaId.{ReplicaId}
use Rattle.seal.specs.Opening.{CheckedMessage, opening}
use Rattle.seal.specs.declared.fault.SealFault.{SealFault}
use Rattle.drained_records.specs.Facts.{RowFacts}
use Rattle.drained_records.specs.Worlds.{Where}
use Rattle.script_text.specs.declared.script.DeliveryOrder.{DeliveryOrder}
use Rattle.script_text.specs.declared.script.DeliveryOrder.TheVariants.{Oldest}
use Rattle.script_text.specs.declared.script.Filter.{Filter}
use Rattle.script_text.specs.Node.{Node}
use Rattle.script_text.specs.Node.TheVariants.{Replica, Client}
use Rattle.world_queue.specs.Draws.{draws, seed_of}
use Rattle.world_queue.specs.Fates.{fate, state_behind}
use Rattle.world_queue.specs.Letters.{LetterFacts, first_meant, meant_count, without_first}
use Rattle.world_queue.specs.declared.fates.Fate.{Fate}
use Rattle.std.specs.Io.KnownBytes.{Appends}
use Rattle.script_text.specs.declared.script.Step.{Step}
use Rattle.script_text.specs.declared.script.Step.TheVariants as steps
use Rattle.world_queue.specs.declared.fates.Fate.TheVariants as fates
use Rattle.world_script.specs.Parts.{Takes, TellsFate, TellsHanding, ahead}
use Rattle.world_script.specs.Seen.{RunTells, Seen, Tells, deliveries_seen, row_of, row_where, standing}
use Rattle.world_script.specs.Writing.{AppendsFront}
use Rattle.world_script.specs.declared.fault.RunFault.{RunFault}
use Rattle.world_script.specs.declared.fault.RunFault.TheVariants.{TooManyDeliveries, Write, Memory}
use Rattle.world_script.proofs.Telling.{TellsMany, handing_told, one_told, told_still}
use Rattle.world_script.proofs.Written.{both, front_then}
use Rattle.world_script.specs.Facts.{StageFacts}
use Rattle.world_script.specs.Stages.{Begins, Receives, Turn, at_client, is_running, letters_in, max_deliveries}

abbrev turned : List LetterFacts → Turn → Turn
turned os p = (p.0, ahead os p.1)

received : (os : List LetterFacts) (s t : StageFacts) (id : ReplicaId) (bytes text : List ℕ) → Receives s id bytes text t → Receives (ahead os s) id bytes text (ahead os t)
received os s t id bytes text r = record {
  occurs = record {
    row = r.occurs.row;
    world = r.occurs.world;
    gives = r.occurs.gives;
    continues = r.occurs.continues;
    new = ap (ahead os) r.occurs.new
        ∙ ap (λ (ls : List LetterFacts). record s { world = r.occurs.world; queue = ls }) (sym (append_assoc os s.queue (letters_in s.world.config id r.occurs.row)));
  };
  text_is = r.text_is;
}

-- The row is the same.
abbrev TookWhere : StageFacts → ReplicaId → List ℕ → List ℕ → Option RowFacts → StageFacts → Bool → Type 0
TookWhere s id bytes text row t b =
    (handed : Where b (Receives s id bytes text t) (◌≡◌ {A = Turn} (text, t) ([], s)))
    × (row ≡ row_where (Receives s id bytes text t) (◌≡◌ {A = Turn} (text, t) ([], s)) b (λ (r : Receives s id bytes text t). r.occurs.row) handed)

at_replica : (os : List LetterFacts) (s t : StageFacts) (id : ReplicaId) (bytes text : List ℕ) (row : Option RowFacts) (b : Bool) → TookWhere s id bytes text row t b
    → TookWhere (ahead os s) id bytes text row (ahead os t) b
unfolding received
at_replica os s t id bytes text row true took = (received os s t id bytes text took.0, took.1)
at_replica os s t id bytes text row false took = (ap (turned os) took.0, took.1)

of_client : (os : List LetterFacts) (s : StageFacts) (client : ClientId) (o : Result CheckedMessage SealFault) → turned os (at_client s client o) ≡ at_client (ahead os s) client o
of_client os s client (Ok m) = refl
of_client os s client (Err fault) = refl

pub framed : (os : List LetterFacts) (node : Node) (s t : StageFacts) (bytes text : List ℕ) (row : Option RowFacts) → Takes node s bytes text row t → Takes node (ahead os s) bytes text row (ahead os t)
framed os (Replica id) s t bytes text row took = at_replica os s t id bytes text row (is_running s.world id) took
framed os (Client client) s t bytes text row took = (ap (turned os) took.0 ∙ of_client os s client (opening s.world.config bytes), took.1)

-- A letter that is meant is handed over, behind those that were passed over, and what came of it is told.
told_ahead : (os : List LetterFacts) (letter : LetterFacts) (s t : StageFacts) (text : List ℕ) (told later : List Seen → Type 0) → TellsHanding letter 0 s text t told later
    → TellsHanding letter 0 (ahead os s) text (ahead os t) told later
told_ahead os letter s t text told later tells =
    let took = framed os letter.to s t letter.bytes text (row_of letter.to s letter.bytes text t tells.0) (tells.0, refl) in
    handing_told letter 0 (ahead os s) text text (row_of letter.to s letter.bytes text t tells.0) (ahead os t) (standing s.world letter.to) told later took refl refl tells.1

-- The first letter that is meant was taken out, and what was passed over stays ahead.
pub delivered : (f : Filter) (s t : StageFacts) (letter : LetterFacts) (whole passed left : List LetterFacts) (text : List ℕ) (told later : List Seen → Type 0)
    → first_meant f whole ≡ Some letter → passed ++ left ≡ without_first f whole → TellsHanding letter 0 (record s { queue = left }) text t told later
    → TellsFate (fates.Handed 0) f (record s { queue = whole }) text (ahead passed t) told later
delivered f s t letter whole passed left text told later first rest tells =
    let one = first_splits f whole letter first in
    let handed = subst (λ (ls : List LetterFacts). TellsHanding letter 0 (record s { queue = ls }) text (ahead passed t) told later) (rest ∙ one.rest)
    (told_ahead passed letter (record s { queue = left }) t text told later tells) in (
      record {
        letter = letter;
        left = one.before ++ one.after;
        taken = record {
          before = one.before;
          after = one.after;
          splits = one.splits;
          is_meant_one = one.meant;
          passed_is = ap length one.none_passed;
          rest = refl;
        };
        handed = handed.0;
      },
      handed.1,
    )

-- ---- none is meant

none_is : {X : Type 0} (o : Option X) → is_some o ≡ false → o ≡ None
none_is None rests = refl
none_is (Some x) rests = absurd (true_false rests) where
  true_false : true ≡ false → ⊥
  true_false h = cc h

pub no_more : (o : Option LetterFacts) (P : Type 0) → is_some o ≡ true → o ≡ None → P
no_more o P some none = absurd (true_false (sym some ∙ ap is_some none)) where
  true_false : true ≡ false → ⊥
  true_false h = cc h

-- All letters were passed over, and stand in the queue again.
pub restored : (f : Filter) (s : StageFacts) (os passed left queue : List LetterFacts) (found : Option LetterFacts) → is_some found ≡ false → found ≡ first_meant f (os ++ s.queue)
    → passed ++ left ≡ without_first f (os ++ s.queue) → IfNone found (left ≡ []) → queue ≡ passed
    → (first_meant f (os ++ s.queue) ≡ None) × (record s { queue = queue } ≡ ahead os s)
restored f s os passed left queue found lacks is rest emptied at = (
  sym is ∙ none_is found lacks,
  ap (λ (ls : List LetterFacts). record s { queue = ls })
      (at ∙ sym (append-nil passed) ∙ ap (λ (ls : List LetterFacts). passed ++ ls) (sym (subst (λ (o : Option LetterFacts). IfNone o (left ≡ [])) (none_is found lacks) emptied))
      ∙ rest ∙ keeps_all f (os ++ s.queue) (sym is ∙ none_is found lacks)),
)

-- ---- how a step that delivers ends

-- Memory runs out, behind what was printed.
pub memory_ended : (s : StageFacts) (step : Step) (old new : Option (List ℕ)) (r : Result (String Global) RunFault) (t : StageFacts) (told later : List Seen → Type 0) (text : List ℕ)
    → IsErrAnd r (λ fault. fault ≡ Memory) → Begins s step text → Appends old new text → RunTells s step old new r t told later
memory_ended s step old new (Ok line) t told later text is begins wrote = absurd is
memory_ended s step old new (Err fault) t told later text is begins wrote =
    subst (λ (x : RunFault). RunTells s step old new (Err x) t told later) (sym is) ((text, begins, wrote), tt)

-- So many were delivered, printed and told, and these letters were passed over.
abbrev pub IsUnderWay : Filter → ℕ → StageFacts → Option (List ℕ) → Option (List ℕ) → List LetterFacts → StageFacts → List ℕ → (List Seen → Type 0) → (List Seen → Type 0) → Type 0
IsUnderWay f n s old new os u text told later = (first_meant f os ≡ None) × TellsMany f Oldest n s text (ahead os u) told later × Appends old new text

abbrev Left : Filter → StageFacts → StageFacts → Type 0
Left f u t = (first_meant f u.queue ≡ None) × (t ≡ u)

module _ (f : Filter) (n : ℕ) (s u : StageFacts) (old mid : Option (List ℕ)) (os : List LetterFacts) (text : List ℕ) (told between : List Seen → Type 0) (is : IsUnderWay f n s old mid os u text told between) where
  pub all_delivered : (t : StageFacts) (later : List Seen → Type 0) (lines : String Global) → n ≤ max_deliveries → text ≡ string_bytes lines → Left f (ahead os u) t → Tells between [] later
      → RunTells s (steps.Deliver f Oldest) old mid (Ok lines) t told later
  all_delivered t later lines within same left still =
      let many = subst (λ (x : StageFacts). TellsMany f Oldest n s (string_bytes lines) x told between) (sym left.1)
      (subst (λ (bs : List ℕ). TellsMany f Oldest n s bs (ahead os u) told between) same is.1) in (
        ((n, within, many.0, ap (λ (x : StageFacts). first_meant f x.queue) left.1 ∙ left.0), subst (Appends old mid) same is.2),
        told_still told between later (deliveries_seen f Oldest n s (string_bytes lines) t many.0) many.1 still,
      )

  pub write_ended : (w t : StageFacts) (new : Option (List ℕ)) (line : List ℕ) (then_told later : List Seen → Type 0) → n < max_deliveries → TellsFate (fates.Handed 0) f (ahead os u) line w between then_told
      → AppendsFront mid new line → RunTells s (steps.Deliver f Oldest) old new (Err Write) t told later
  write_ended w t new line then_told later within one front = (
    (
      text ++ line,
      (n + 1, w, omega (arith, within), (one_told f Oldest n s (ahead os u) w text line told between then_told is.1 one).0),
      front_then old mid new text line is.2 front,
    ),
    tt,
  )

  pub begun_so : n ≤ max_deliveries → Begins s (steps.Deliver f Oldest) text
  begun_so within = (n, ahead os u, within, is.1.0)

  pub continues : (v : StageFacts) (new : Option (List ℕ)) (rest : List LetterFacts) (line both_lines : List ℕ) (later : List Seen → Type 0)
      → TellsFate (fates.Handed 0) f (ahead os u) line (ahead rest v) between later × (first_meant f rest ≡ None) → Appends mid new line → both_lines ≡ text ++ line
      → IsUnderWay f (n + 1) s old new rest v both_lines told later
  continues v new rest line both_lines later one wrote same =
      subst (λ (bs : List ℕ). IsUnderWay f (n + 1) s old new rest v bs told later) (sym same)
      (one.1, one_told f Oldest n s (ahead os u) (ahead rest v) text line told between later is.1 one.0, both old mid new text line is.2 wrote)

  pub too_many : (t : StageFacts) → n ≡ max_deliveries → (first_meant f (ahead os u).queue ≡ None → ⊥) → RunTells s (steps.Deliver f Oldest) old mid (Err TooManyDeliveries) t told between
  too_many t all more =
      let many = subst (λ (k : ℕ). TellsMany f Oldest k s text (ahead os u) told between) all is.1 in
      ((text, (ahead os u, many.0, more), is.2), many.1)

-- ---- in an order that is drawn or chosen

-- So many deliveries were made, printed and told in this order, and this is the generator's state.
abbrev pub IsDrawing : Filter → DeliveryOrder → ℕ → StageFacts → Option (List ℕ) → Option (List ℕ) → ℕ → StageFacts → List ℕ → (List Seen → Type 0) → (List Seen → Type 0) → Type 0
IsDrawing f order n s old new state u text told later = (state ≡ state_behind (seed_of order) (draws order n)) × TellsMany f order n s text u told later × Appends old new text

module _ (f : Filter) (order : DeliveryOrder) (n : ℕ) (s u : StageFacts) (old mid : Option (List ℕ)) (state : ℕ) (text : List ℕ) (told between : List Seen → Type 0)
    (is : IsDrawing f order n s old mid state u text told between) where
  pub all_drawn : (lines : String Global) → n ≤ max_deliveries → text ≡ string_bytes lines → meant_count f u.queue ≡ 0 → RunTells s (steps.Deliver f order) old mid (Ok lines) u told between
  all_drawn lines within same none =
      let many = subst (λ (bs : List ℕ). TellsMany f order n s bs u told between) same is.1 in
      (((n, within, many.0, none_meant f u.queue none), subst (Appends old mid) same is.2), many.1)

  pub drawn_too_many : (t : StageFacts) → n ≡ max_deliveries → 0 < meant_count f u.queue → RunTells s (steps.Deliver f order) old mid (Err TooManyDeliveries) t told between
  drawn_too_many t all more =
      let many = subst (λ (k : ℕ). TellsMany f order k s text u told between) all is.1 in
      ((text, (u, many.0, some_meant f u.queue more), is.2), many.1)

  pub drawn_so : n ≤ max_deliveries → Begins s (steps.Deliver f order) text
  drawn_so within = (n, u, within, is.1.0)

  -- What was drawn is what becomes of the delivery.
  module _ (w : StageFacts) (line : List ℕ) (letters replicas : ℕ) (what : Fate) (later : List Seen → Type 0) (counted : letters ≡ meant_count f u.queue) (all : replicas ≡ replicas_for u.world.config.f)
      (drawn : what ≡ fate order n letters replicas) (one : TellsFate what f u line w between later) where
    befallen : TellsMany f order (n + 1) s (text ++ line) w told later
    befallen =
        one_told f order n s u w text line told between later is.1
        (subst (λ (x : Fate). TellsFate x f u line w between later) (drawn ∙ ap (λ (k : ℕ). fate order n k replicas) counted ∙ ap (fate order n (meant_count f u.queue)) all) one)

    pub drawn_cut : (t : StageFacts) (new : Option (List ℕ)) (last : List Seen → Type 0) → n < max_deliveries → AppendsFront mid new line → RunTells s (steps.Deliver f order) old new (Err Write) t told last
    drawn_cut t new last within front = ((text ++ line, (n + 1, w, omega (arith, within), befallen.0), front_then old mid new text line is.2 front), tt)

    pub drawn_more : (new : Option (List ℕ)) (next : ℕ) (both_texts : List ℕ) → next ≡ state_behind (seed_of order) (draws order (n + 1)) → Appends mid new line → both_texts ≡ text ++ line
        → IsDrawing f order (n + 1) s old new next w both_texts told later
    drawn_more new next both_texts is_next wrote same =
        subst (λ (bs : List ℕ). IsDrawing f order (n + 1) s old new next w bs told later) (sym same) (is_next, befallen, both old mid new text line is.2 wrote)
