-- What is noted after one more was done.
use Rattle.std.proofs.Common.{◌≡◌, ℕ, ◌<◌, ◌≤◌, ◌⊎◌, inl, inr, List, [], ◌∷◌, ◌++◌, Option, Some, None, refl, sym, ap, subst, ◌∙◌, arith}
use Rattle.std.specs.Prelude.{max, Result, Ok, Err, IfErr, IsErrAnd}
use Rattle.std.specs.Option.{option_or}
use Rattle.std.specs.Ordering.{nat_cmp}
use Rattle.std.specs.BTreeMap as tree
use Rattle.std.proofs.lemmas.Bool.{cases_lt}
use Rattle.host_types.specs.declared.Digest.{Digest}
use Rattle.host_types.specs.declared.SeqNo.{SeqNo}
use Rattle.replica_journal.specs.Done.{Done}
use Rattle.replica_journal.specs.Done.TheVariants.{Executed, Installed}
use Rattle.byz_world.specs.declared.audit_fault.AuditFault.{AuditFault}
use Rattle.byz_world.specs.declared.audit_fault.AuditFault.TheVariants.{Differ, Gap, Unrecorded, Memory}
use Rattle.byz_world.specs.declared.history.Execution.{Execution}
use Rattle.byz_world.specs.declared.noted.Noted.{Noted}
use Rattle.byz_world.specs.Audits.{AreUpTo, IsReached, SaysOther, SaysTheSame, SomeDiffer, executed_at, execution, execution_in, installation_in, installed_at, number_in}
use Rattle.byz_world.specs.Noting.{IsFirst, IsNoted, IsRefusal}
use Rattle.byz_world.proofs.Lists.{AllByRecursion-append, AllByRecursion-follows}

-- ---- what one more says

or_assoc : {A : Type 0} (o p q : Option A) → option_or o (option_or p q) ≡ option_or (option_or o p) q
or_assoc None p q = refl
or_assoc (Some x) p q = refl

or_None : {A : Type 0} (o : Option A) → option_or o None ≡ o
or_None None = refl
or_None (Some x) = refl

pub executed_more : (xs ys : List Done) (n : ℕ) → executed_at (xs ++ ys) n ≡ option_or (executed_at xs n) (executed_at ys n)
executed_more [] ys n = refl
executed_more (x ∷ xs) ys n = ap (option_or (execution_in n x)) (executed_more xs ys n) ∙ or_assoc (execution_in n x) (executed_at xs n) (executed_at ys n)

pub installed_more : (xs ys : List Done) (n : ℕ) → installed_at (xs ++ ys) n ≡ option_or (installed_at xs n) (installed_at ys n)
installed_more [] ys n = refl
installed_more (x ∷ xs) ys n = ap (option_or (installation_in n x)) (installed_more xs ys n) ∙ or_assoc (installation_in n x) (installed_at xs n) (installed_at ys n)

executed_one : (xs : List Done) (x : Done) (n : ℕ) → executed_at (xs ++ x ∷ []) n ≡ option_or (executed_at xs n) (execution_in n x)
executed_one xs x n = executed_more xs (x ∷ []) n ∙ ap (option_or (executed_at xs n)) (or_None (execution_in n x))

installed_one : (xs : List Done) (x : Done) (n : ℕ) → installed_at (xs ++ x ∷ []) n ≡ option_or (installed_at xs n) (installation_in n x)
installed_one xs x n = installed_more xs (x ∷ []) n ∙ ap (option_or (installed_at xs n)) (or_None (installation_in n x))

pub executed_kept : (xs ys : List Done) (n : ℕ) (e : Execution) → executed_at xs n ≡ Some e → executed_at (xs ++ ys) n ≡ Some e
executed_kept xs ys n e is = executed_more xs ys n ∙ ap (λ (o : Option Execution). option_or o (executed_at ys n)) is

pub installed_kept : (xs ys : List Done) (n : ℕ) (d : Digest) → installed_at xs n ≡ Some d → installed_at (xs ++ ys) n ≡ Some d
installed_kept xs ys n d is = installed_more xs ys n ∙ ap (λ (o : Option Digest). option_or o (installed_at ys n)) is

same_kept : (xs ys : List Done) (x : Done) → SaysTheSame xs x → SaysTheSame (xs ++ ys) x
same_kept xs ys (Executed number digest result) is = executed_kept xs ys number.0 (execution digest result) is
same_kept xs ys (Installed number digest) is = installed_kept xs ys number.0 digest is

other_kept : (xs ys : List Done) (x : Done) → SaysOther xs x → SaysOther (xs ++ ys) x
other_kept xs ys (Executed number digest result) w = (w.0, executed_kept xs ys number.0 w.0 w.1, w.2)
other_kept xs ys (Installed number digest) w = (w.0, installed_kept xs ys number.0 w.0 w.1, w.2)

differ_kept : (xs ys zs : List Done) → SomeDiffer xs zs → SomeDiffer (xs ++ ys) zs
differ_kept xs ys [] w = w
differ_kept xs ys (z ∷ zs) (inl here) = inl (other_kept xs ys z here)
differ_kept xs ys (z ∷ zs) (inr later) = inr (differ_kept xs ys zs later)

differ_first : (all xs ys : List Done) → SomeDiffer all xs → SomeDiffer all (xs ++ ys)
differ_first all [] ys w = absurd w
differ_first all (x ∷ xs) ys (inl here) = inl here
differ_first all (x ∷ xs) ys (inr later) = inr (differ_first all xs ys later)

differ_last : (all xs ys : List Done) → SomeDiffer all ys → SomeDiffer all (xs ++ ys)
differ_last all [] ys w = w
differ_last all (x ∷ xs) ys w = inr (differ_last all xs ys w)

-- Where some differ, some do with more behind them.
pub differ_more : (xs ys : List Done) → SomeDiffer xs xs → SomeDiffer (xs ++ ys) (xs ++ ys)
differ_more xs ys w = differ_first (xs ++ ys) xs ys (differ_kept xs ys xs w)

-- One that says other than those before it.
pub differ_here : (xs ys : List Done) (x : Done) → SaysOther xs x → SomeDiffer (xs ++ x ∷ ys) (xs ++ x ∷ ys)
differ_here xs ys x w = differ_last (xs ++ x ∷ ys) xs (x ∷ ys) (inl (other_kept xs (x ∷ ys) x w))

-- ---- the greatest number

reached_first : (n : ℕ) (xs ys : List Done) → IsReached n xs → IsReached n (xs ++ ys)
reached_first n [] ys w = absurd w
reached_first n (x ∷ xs) ys (inl here) = inl here
reached_first n (x ∷ xs) ys (inr later) = inr (reached_first n xs ys later)

reached_last : (n : ℕ) (xs ys : List Done) → IsReached n ys → IsReached n (xs ++ ys)
reached_last n [] ys w = w
reached_last n (x ∷ xs) ys w = inr (reached_last n xs ys w)

up_to_more : (top top' : ℕ) (xs : List Done) (x : Done) → top' ≡ max top (number_in x) → AreUpTo top xs → AreUpTo top' (xs ++ x ∷ [])
up_to_more top top' xs x is all =
    AllByRecursion-append (λ y. number_in y ≤ top') xs x
    (AllByRecursion-follows (λ y. number_in y ≤ top) (λ y. number_in y ≤ top') xs (λ y h. omega (arith, is, h)) all) (omega (arith, is))

least_more : (top top' : ℕ) (xs : List Done) (x : Done) → top' ≡ max top (number_in x) → ((n : ℕ) → 0 < n → n ≤ top → IsReached n xs) → (n : ℕ) → 0 < n → n ≤ top' → IsReached n (xs ++ x ∷ [])
least_more top top' xs x is all n positive within = split (cases_lt top n) where
  split : (top < n) ⊎ (n ≤ top) → IsReached n (xs ++ x ∷ [])
  split (inl above) = reached_last n xs (x ∷ []) (inl (omega (arith, is, within, above)))
  split (inr below) = reached_first n xs (x ∷ []) (all n positive below)

-- ---- one more is noted

pub noted_execution : (before : List Done) (old new : Noted) (number : SeqNo) (digest : Digest) (result : List ℕ) → IsNoted before old → IsFirst number.0 (execution digest result) old.executed new.executed → new.installed ≡ old.installed → new.greatest ≡ max old.greatest number.0 → IsNoted (before ++ Executed number digest result ∷ []) new
noted_execution before old new number digest result noted first same greatest =
    let x : Done = Executed number digest result in
    let executed : (n : ℕ) → tree.get nat_cmp new.executed n ≡ executed_at (before ++ x ∷ []) n =
    λ (n : ℕ). first.others n ∙ ap (λ (o : Option Execution). option_or o (execution_in n x)) (noted.executed n) ∙ sym (executed_one before x n) in
    record {
      agree = AllByRecursion-append (SaysTheSame (before ++ x ∷ [])) before x (AllByRecursion-follows (SaysTheSame before) (SaysTheSame (before ++ x ∷ [])) before (same_kept before (x ∷ [])) noted.agree) (sym (executed number.0) ∙ first.is);
      executed = executed;
      installed = λ n. ap (λ m. tree.get nat_cmp m n) same ∙ noted.installed n ∙ sym (installed_one before x n ∙ or_None (installed_at before n));
      up_to = up_to_more old.greatest new.greatest before x greatest noted.up_to;
      least = least_more old.greatest new.greatest before x greatest noted.least;
    }

pub noted_installation : (before : List Done) (old new : Noted) (number : SeqNo) (digest : Digest) → IsNoted before old → IsFirst number.0 digest old.installed new.installed → new.executed ≡ old.executed → new.greatest ≡ max old.greatest number.0 → IsNoted (before ++ Installed number digest ∷ []) new
noted_installation before old new number digest noted first same greatest =
    let x : Done = Installed number digest in
    let installed : (n : ℕ) → tree.get nat_cmp new.installed n ≡ installed_at (before ++ x ∷ []) n =
    λ (n : ℕ). first.others n ∙ ap (λ (o : Option Digest). option_or o (installation_in n x)) (noted.installed n) ∙ sym (installed_one before x n) in
    record {
      agree = AllByRecursion-append (SaysTheSame (before ++ x ∷ [])) before x (AllByRecursion-follows (SaysTheSame before) (SaysTheSame (before ++ x ∷ [])) before (same_kept before (x ∷ [])) noted.agree) (sym (installed number.0) ∙ first.is);
      executed = λ n. ap (λ m. tree.get nat_cmp m n) same ∙ noted.executed n ∙ sym (executed_one before x n ∙ or_None (executed_at before n));
      installed = installed;
      up_to = up_to_more old.greatest new.greatest before x greatest noted.up_to;
      least = least_more old.greatest new.greatest before x greatest noted.least;
    }

-- ---- refusals

pub refused : {A : Type 0} (r : Result A AuditFault) (fault : AuditFault) (P : AuditFault → Type 0) → IsErrAnd r (λ e. e ≡ fault) → P fault → IfErr r P
refused (Ok x) fault P e h = absurd e
refused (Err x) fault P e h = subst P (sym e) h

pub refusal_follows : (P Q : Type 0) (fault : AuditFault) → (P → Q) → IsRefusal P fault → IsRefusal Q fault
refusal_follows P Q Differ f h = f h
refusal_follows P Q Gap f h = absurd h
refusal_follows P Q Unrecorded f h = absurd h
refusal_follows P Q Memory f h = tt
