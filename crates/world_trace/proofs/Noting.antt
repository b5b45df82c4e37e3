-- How what happened is noted, one thing behind another, and what is told of that.
use Rattle.std.proofs.Common.{◌≡◌, List, [], ◌∷◌, ◌++◌, Option, Some, None, Ok, Err, refl, sym, ap, subst, ◌∙◌}
use Rattle.std.specs.Prelude.{Result}
use Rattle.std.specs.Result.{result_err}
use Rattle.std.proofs.lemmas.List.{append-nil, append_assoc}
use Rattle.host_types.specs.declared.ReplicaId.{ReplicaId}
use Rattle.script_text.specs.Node.TheVariants.{Replica}
use Rattle.seal.specs.Opening.{CheckedMessage}
use Rattle.seal.specs.declared.fault.SealFault.{SealFault}
use Rattle.world_chart.specs.Changes.{changes_from}
use Rattle.world_chart.specs.Happening.{Happening}
use Rattle.world_script.specs.Facts.{RowFacts}
use Rattle.world_script.specs.Letters.{LetterFacts}
use Rattle.world_script.specs.Seen.{Seen, Tells, standing}
use Rattle.world_script.specs.Status.{Status}
use Rattle.world_script.specs.Worlds.{WorldFacts}
use Rattle.world_trace.specs.Happenings.{AreTold, Happens, HappensAt, IsOne, IsRefused, IsRefusedFor}
use Rattle.world_trace.specs.Noting.{DoesAt, Notes}
use Rattle.world_trace.specs.Telling.{AreNoted}

pub noted_one : (one : Happening) (old new : List Happening) → new ≡ old ++ one ∷ [] → Notes (IsOne one) old new
noted_one one old new is = (one ∷ [], refl, is)

-- ---- an event at a replica

pub noted_event : (at : ReplicaId) (before : Option Status) (row : Option RowFacts) (world : WorldFacts) (old between new : List Happening) → between ≡ old ++ changes_from at before (standing world (Replica at))
    → Notes (DoesAt at row) between new → Notes (HappensAt at before row world) old new
noted_event at before row world old between new changes n =
    let changed = changes_from at before (standing world (Replica at)) in (
      changed ++ n.0,
      record {
        blamed = n.1.0;
        may = n.1.1;
        is = ap (λ (xs : List Happening). changed ++ xs) n.1.2;
      },
      n.2 ∙ ap (λ (xs : List Happening). xs ++ n.0) changes ∙ append_assoc old changed n.0,
    )

-- ---- a letter

-- Opening it finds nothing, or a fault.
pub noted_opened : (at : ReplicaId) (l : LetterFacts) (opened : Result CheckedMessage SealFault) (old : List Happening) → result_err opened ≡ None → Notes (IsRefused at l opened) old old
noted_opened at l (Ok message) old is = ([], refl, sym (append-nil old))
noted_opened at l (Err fault) old is = absurd cc

pub noted_refused : (at : ReplicaId) (l : LetterFacts) (opened : Result CheckedMessage SealFault) (fault : SealFault) (old new : List Happening) → result_err opened ≡ Some fault → Notes (IsRefusedFor at l fault) old new
    → Notes (IsRefused at l opened) old new
noted_refused at l (Ok message) fault old new is n = absurd cc
noted_refused at l (Err found) fault old new is n =
    let same : fault ≡ found = cc in
    subst (λ (f : SealFault). Notes (IsRefusedFor at l f) old new) same n

-- ---- what is told

told_more : (xs : List Seen) (x : Seen) (happened more : List Happening) → AreTold xs happened → Happens x more → AreTold (xs ++ x ∷ []) (happened ++ more)
told_more [] x happened more none h = (more, [], h, refl, ap (λ (ys : List Happening). ys ++ more) none ∙ sym (append-nil more))
told_more (y ∷ ys) x happened more (first, rest, one, others, is) h =
    (first, rest ++ more, one, told_more ys x rest more others h, ap (λ (zs : List Happening). zs ++ more) is ∙ append_assoc first rest more)

-- One more thing is told.
pub tells_one : (x : Seen) (old new : List Happening) → Notes (Happens x) old new → Tells (AreNoted old) (x ∷ []) (AreNoted new)
tells_one x old new n before told = subst (AreTold (before ++ x ∷ [])) (sym n.2) (told_more before x old n.0 told n.1)
