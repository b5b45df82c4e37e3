-- Behind the rows of a lawful journal nothing is due.
use Rattle.std.proofs.Common.{◌≡◌, ℕ, Bool, true, false, cond, List, [], ◌∷◌, Option, None, refl, sym, ap, subst, ◌∙◌}
use Rattle.std.specs.Prelude.{not}
use Rattle.pbft_model.specs.Words.{SigningState}
use Rattle.pbft_model.specs.Setup.{Setup}
use Rattle.pbft_model.specs.Core.{Core, start_of, inside}
use Rattle.pbft_model.specs.Duties.{Duty, or_else, first_for, leads, prepare_for, commit_for, due_on_timeout, due_reply, due_checkpoint, due_answer, due_supply, due_enter, due_install, due_rise, due_propose, due_prepare, due_commit, due_execute, due_join, due_open, due_fetch_state, due_fetch_request, due}
use Rattle.pbft_model.specs.Rows.{Row, IsLawfulFrom}
use Rattle.pbft_agreement.specs.Journals.{Journals}
use Rattle.pbft_model.proofs.Following.{or_none}
use Rattle.pbft_progress.specs.Progress.{EachEnds, IsAtRest}

none_or : (o p : Option Duty) → o ≡ None → p ≡ None → or_else o p ≡ None
none_or o p e f = ap (λ (x : Option Duty). or_else x p) e ∙ f

none_first : (duty : ℕ → Option Duty) (ns : List ℕ) → ((n : ℕ) → duty n ≡ None) → first_for duty ns ≡ None
none_first duty [] h = refl
none_first duty (n ∷ ns) h = none_or (duty n) (first_for duty ns) (h n) (none_first duty ns h)

none_either : (b : Bool) (o : Option Duty) → o ≡ None → cond b o None ≡ None
none_either true o e = e
none_either false o e = refl

module _ (c : Setup) (me : ℕ) where
  pub at_rest : (s : Core) → due c me s ≡ None → IsAtRest c me s
  at_rest s e =
      let timeout = or_none (due_on_timeout c me s) _ e in
      let reply = or_none (due_reply me s s.reply_due) _ timeout.1 in
      let checkpoint = or_none (due_checkpoint c me s) _ reply.1 in
      let answer = or_none (due_answer me s) _ checkpoint.1 in
      let supply = or_none (due_supply c me s) _ answer.1 in
      let enter = or_none (due_enter c s) _ supply.1 in
      let install = or_none (due_install c s) _ enter.1 in
      let rise = or_none (due_rise c s) _ install.1 in
      let propose = or_none (due_propose c me s) _ rise.1 in
      let prepare = or_none (due_prepare c me s) _ propose.1 in
      let commit = or_none (due_commit c me s) _ prepare.1 in
      let execute = or_none (due_execute c s) _ commit.1 in
      let join = or_none (due_join c me s) _ execute.1 in
      let open_view = or_none (due_open c me s) _ join.1 in
      let fetch = or_none (due_fetch_state c me s) (due_fetch_request c me s) open_view.1 in
      record {
        before_executing = record {
          timeout = timeout.0;
          reply = reply.0;
          checkpoint = checkpoint.0;
          answer = answer.0;
          supply = supply.0;
          enter = enter.0;
          install = install.0;
          rise = rise.0;
          propose = propose.0;
          prepare = prepare.0;
          commit = commit.0;
        };
        execute = execute.0;
        join = join.0;
        open_view = open_view.0;
        fetch_state = fetch.0;
        fetch_request = fetch.1;
      }

  -- before the first row
  start_rests : (signer : SigningState) → IsAtRest c me (start_of c signer)
  start_rests signer = record {
    before_executing = record {
      timeout = refl;
      reply = refl;
      checkpoint = refl;
      answer = refl;
      supply = refl;
      enter = refl;
      install = refl;
      rise = refl;
      propose = none_either (leads c me (start_of c signer)) None refl;
      prepare = none_either (not (leads c me (start_of c signer))) (first_for (prepare_for c me (start_of c signer)) (inside c (start_of c signer)))
          (none_first (prepare_for c me (start_of c signer)) (inside c (start_of c signer)) (λ n. refl));
      commit = none_first (commit_for c me (start_of c signer)) (inside c (start_of c signer)) (λ n. refl);
    };
    execute = refl;
    join = refl;
    open_view = refl;
    fetch_state = refl;
    fetch_request = none_first _ (inside c (start_of c signer)) (λ n. refl);
  }

  rows_rest : (rows : List Row) (s t : Core) → IsAtRest c me s → IsLawfulFrom c me s rows t → IsAtRest c me t
  rows_rest [] s t h same = subst (IsAtRest c me) (sym same) h
  rows_rest (row ∷ rows) s t h (u, next, rest) = rows_rest rows u t (at_rest u next.reacts.rests) rest

  pub journal_rests : (signer : SigningState) (rows : List Row) (last : Core) → IsLawfulFrom c me (start_of c signer) rows last → IsAtRest c me last
  journal_rests signer rows last lawful = rows_rest rows (start_of c signer) last (start_rests signer) lawful

pub each_rests : (c : Setup) (j : Journals) → EachEnds c j (IsAtRest c)
each_rests c j i correct s comes = journal_rests c i (j.signer i) (j.rows i) s comes
