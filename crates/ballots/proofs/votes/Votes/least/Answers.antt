use Rattle.std.proofs.Common.{◌≡◌, Bool, true, false, cond, Option, Some, None, sym, ap, ◌∙◌, ◌++◌, ◌∷◌, [], arith}
use Rattle.std.specs.Option.{option_copied}
use Rattle.pbft_model.specs.Opening.{CheckedMessage}
use Rattle.ballots.proofs.Least.{took, passed, left_out}
use Rattle.ballots.proofs.votes.Votes.least.Goals as goal
use Rattle.ballots.proofs.votes.Votes.least.Goals.{in-Some, then-seen-many+in_ok-copy+in_ok-push, else-seen-many, in_default}

pub loop-signer-preserved : goal.loop-signer-preserved
loop-signer-preserved c =
    let inv = c.loop-signer.invariant in
    elim c.match-vote_for.branch [
      | in-Some w ↦
          let is = sym (ap option_copied w.in-Some.is) ∙ c.vote_for.ensures in
          elim w.if-seen-many.branch [
            | then-seen-many+in_ok-copy+in_ok-push v ↦
                let next = took c.args.self.now c.args.digest.now.0 c.args.many c.loop-signer.signer c.loop-signer.seen w.in-Some.message.now is inv.1 v.if-seen-many.true in
                let list = w.list-is ∙ v.list-is ∙ v.in_ok-push.ensures.pushed in (
                  ap (λ l. l.config) list ∙ inv.0,
                  w.seen-is ∙ next.counted,
                  omega (arith, w.seen-is, inv.2),
                  ap (λ l. l.messages) list ∙ ap (λ m. c.loop-signer.list.messages ++ m.message ∷ []) v.in_ok-copy.ensures ∙ ap (λ ms. ms ++ w.in-Some.message.now.message ∷ []) inv.3 ∙ next.gathered,
                )
            | else-seen-many v ↦
                let next = passed c.args.self.now c.args.digest.now.0 c.args.many c.loop-signer.signer c.loop-signer.seen w.in-Some.message.now is inv.1 v.if-seen-many.false in
                let list = w.list-is ∙ v.list-is in
                (ap (λ l. l.config) list ∙ inv.0, w.seen-is ∙ next.counted, omega (arith, w.seen-is, inv.2), ap (λ l. l.messages) list ∙ inv.3 ∙ next.gathered)
          ]
      | in_default w ↦
          let is = sym (ap option_copied w.in_default.is) ∙ c.vote_for.ensures in
          let next = left_out c.args.self.now c.args.digest.now.0 c.args.many c.loop-signer.signer c.loop-signer.seen is inv.1 in
          (ap (λ l. l.config) w.list-is ∙ inv.0, w.seen-is ∙ next.counted, omega (arith, w.seen-is, inv.2), ap (λ l. l.messages) w.list-is ∙ inv.3 ∙ next.gathered)
    ]

held : {X : Type 0} (b : Bool) (o : Option X) (x : X) → Some x ≡ cond b o None → o ≡ Some x
held true o x e = sym e
held false o x e = absurd cc

-- a vote that is held is under the configuration
pub push-requires : goal.push-requires
push-requires c =
    ap (λ (m : CheckedMessage). m.config) c.in_ok-copy.ensures
    ∙ (c.requires c.loop-signer.signer c.in-Some.message.now (held _ _ _ (sym (ap option_copied c.in-Some.is) ∙ c.vote_for.ensures))
    ∙ sym c.loop-signer.invariant.0)
