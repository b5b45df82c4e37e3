-- Authentic messages are those without a fault.
use Rattle.std.proofs.Common.{◌≡◌, ℕ, suc, ◌+◌, ◌<◌, ◌≤◌, Bool, true, false, not, cond, List, [], ◌∷◌, ◌++◌, length, get_or, drop, Option, Some, None, Result, refl, sym, ap, subst, ◌∙◌, ◌⊎◌, inl, inr, arith}
use Rattle.std.specs.Prelude.{is_some, MatchResult}
use Rattle.std.specs.List.{AllByRecursion}
use Rattle.std.proofs.Math.Seq.{drop-cons}
use Rattle.std.proofs.Math.ListN.{drop_of_length-le}
use Rattle.host_types.specs.Configuration.{Configuration}
use Rattle.host_types.specs.declared.key.PublicKey.{PublicKey}
use Rattle.lms_tree.specs.declared.SigFault.{SigFault}
use Rattle.pbft_codec.specs.declared.body.Body.{Body}
use Rattle.pbft_codec.specs.declared.signed.Signed.{Signed}
use Rattle.seal.specs.declared.fault.SealFault.{SealFault}
use Rattle.seal.specs.declared.fault.SealFault.TheVariants.{UnknownSigner, BadSignature, WrongRole, Memory}
use Rattle.seal.specs.declared.verify_parts.Claim.{Claim}
use Rattle.pbft_codec.specs.Encoding.{signed_text}
use Rattle.lms_tree.specs.Signature.{signature_fault}
use Rattle.seal.specs.Claims.{IsClaimOf, MayHaveSigned}
use Rattle.seal.specs.Signers.{IsAuthentic, key_of, may_sign, fault_under, own_fault, or_later, first_fault}

-- ---- lists

pub all_split : {X : Type 0} (P : X → Type 0) (xs ys : List X) → AllByRecursion P (xs ++ ys) → AllByRecursion P xs × AllByRecursion P ys
all_split P [] ys h = (tt, h)
all_split P (x ∷ xs) ys h = let rest = all_split P xs ys h.1 in ((h.0, rest.0), rest.1)

pub all_join : {X : Type 0} (P : X → Type 0) (xs ys : List X) → AllByRecursion P xs → AllByRecursion P ys → AllByRecursion P (xs ++ ys)
all_join P [] ys h k = k
all_join P (x ∷ xs) ys h k = (h.0, all_join P xs ys h.1 k)

-- ---- one message

role_and_valid : (t : Bool) (f : Option SigFault) → cond (not t) (Some WrongRole) (cond (is_some f) (Some BadSignature) None) ≡ None → (t ≡ true) × (f ≡ None)
role_and_valid true None e = (refl, refl)
role_and_valid true (Some x) e = absurd cc
role_and_valid false f e = absurd cc

under_key : (c : Configuration) (m : Signed Body) (key : Option PublicKey) → key_of c m.role m.id ≡ key → fault_under c key m ≡ None → IsAuthentic c m
under_key c m None is e = absurd cc
under_key c m (Some key) is e =
    let pair = role_and_valid (may_sign c m.role m.id m.body) _ e in
    record { key = key; listed = is; role = pair.0; signature = pair.1 }

pub faultless_is_authentic : (c : Configuration) (m : Signed Body) → own_fault c m ≡ None → IsAuthentic c m
unfolding own_fault
faultless_is_authentic c m e = under_key c m (key_of c m.role m.id) refl e

pub authentic_is_faultless : (c : Configuration) (m : Signed Body) → IsAuthentic c m → own_fault c m ≡ None
unfolding own_fault
authentic_is_faultless c m s = rw (s.listed, s.role, s.signature) refl

-- ---- what is verified of a message itself

pub unlisted : (c : Configuration) (claim : Claim) (m : Signed Body) → IsClaimOf claim m → key_of c claim.role claim.id ≡ None → own_fault c m ≡ Some UnknownSigner
unfolding own_fault
unlisted c claim m is none =
    let key : key_of c m.role m.id ≡ None = rw (is.role, is.id) none in
    rw key refl

pub out_of_role : (c : Configuration) (claim : Claim) (m : Signed Body) (key : PublicKey) → IsClaimOf claim m → key_of c claim.role claim.id ≡ Some key → may_sign c claim.role claim.id m.body ≡ false → own_fault c m ≡ Some WrongRole
unfolding own_fault
out_of_role c claim m key is listed wrong =
    let known : key_of c m.role m.id ≡ Some key = rw (is.role, is.id) listed in
    let role : may_sign c m.role m.id m.body ≡ false = rw (is.role, is.id) wrong in
    rw (known, role) refl

pub may_have_signed : (c : Configuration) (claim : Claim) (m : Signed Body) (key : PublicKey) → IsClaimOf claim m → key_of c claim.role claim.id ≡ Some key → may_sign c claim.role claim.id m.body ≡ true → MayHaveSigned c m key
may_have_signed c claim m key is listed right = record { listed = rw (is.role, is.id) listed; role = rw (is.role, is.id) right }

pub own_fault_by_key : (c : Configuration) (m : Signed Body) (key : PublicKey) (text sig : List ℕ) (found : Option SigFault) → MayHaveSigned c m key → m.sig ≡ sig → text ≡ signed_text m → signature_fault key text sig ≡ found → own_fault c m ≡ cond (is_some found) (Some BadSignature) None
unfolding own_fault
own_fault_by_key c m key text sig found may of_sig said e =
    let known = may.listed in
    let role = may.role in
    let fault : signature_fault key (signed_text m) m.sig ≡ found = rw (of_sig, ← said) e in
    rw (known, role, fault) refl

-- ---- several

or_none : (one later : Option SealFault) → or_later one later ≡ None → (one ≡ None) × (later ≡ None)
or_none None later e = (refl, e)
or_none (Some f) later e = absurd cc

pub all_authentic : (c : Configuration) (ms : List (Signed Body)) → first_fault c ms ≡ None → AllByRecursion (IsAuthentic c) ms
unfolding first_fault
all_authentic c [] e = tt
all_authentic c (m ∷ ms) e =
    let pair = or_none (own_fault c m) (first_fault c ms) e in
    (faultless_is_authentic c m pair.0, all_authentic c ms pair.1)

pub all_faultless : (c : Configuration) (ms : List (Signed Body)) → AllByRecursion (IsAuthentic c) ms → first_fault c ms ≡ None
unfolding first_fault
all_faultless c [] s = refl
all_faultless c (m ∷ ms) s = rw (authentic_is_faultless c m s.0) (all_faultless c ms s.1)

-- ---- one after the other

pub continues : (c : Configuration) (ms : List (Signed Body)) (i : ℕ) (m : Signed Body) → i < length ms → own_fault c (get_or ms i m) ≡ None → first_fault c (drop i ms) ≡ first_fault c (drop (i + 1) ms)
unfolding first_fault
continues c ms i m lt e =
    let next : i + 1 ≡ suc i = omega arith in
    rw (next, drop-cons ms i m lt) (rw e refl)

pub stops : (c : Configuration) (ms : List (Signed Body)) (i : ℕ) (m : Signed Body) (f : SealFault) → i < length ms → own_fault c (get_or ms i m) ≡ Some f → first_fault c (drop i ms) ≡ Some f
unfolding first_fault
stops c ms i m f lt e = rw (drop-cons ms i m lt) (rw e refl)

abbrev pub MemoryOr : SealFault → Option SealFault → Type 0
MemoryOr f o = (f ≡ Memory) ⊎ (o ≡ Some f)

pub stops_whole : (c : Configuration) (ms : List (Signed Body)) (i : ℕ) (m : Signed Body) (f : SealFault) → i < length ms → m ≡ get_or ms i m → first_fault c ms ≡ first_fault c (drop i ms) → MemoryOr f (own_fault c m) → MemoryOr f (first_fault c ms)
stops_whole c ms i m f lt is so_far (inl e) = inl e
stops_whole c ms i m f lt is so_far (inr e) = inr (so_far ∙ stops c ms i m f lt (ap (own_fault c) (sym is) ∙ e))

pub first_is_it : (c : Configuration) (m : Signed Body) (ms : List (Signed Body)) (f : SealFault) → MemoryOr f (own_fault c m) → MemoryOr f (first_fault c (m ∷ ms))
unfolding first_fault
first_is_it c m ms f (inl e) = inl e
first_is_it c m ms f (inr e) = inr (rw e refl)

pub first_is_not : (c : Configuration) (m : Signed Body) (ms : List (Signed Body)) → own_fault c m ≡ None → first_fault c (m ∷ ms) ≡ first_fault c ms
unfolding first_fault
first_is_not c m ms e = rw e refl

or_none_later : (o : Option SealFault) → or_later o None ≡ o
or_none_later None = refl
or_none_later (Some f) = refl

pub first_alone : (c : Configuration) (m : Signed Body) → first_fault c (m ∷ []) ≡ own_fault c m
unfolding first_fault
first_alone c m = or_none_later (own_fault c m)

pub none_left : (c : Configuration) (ms : List (Signed Body)) (i : ℕ) → length ms ≤ i → first_fault c ms ≡ first_fault c (drop i ms) → first_fault c ms ≡ None
unfolding first_fault
none_left c ms i le so_far = so_far ∙ ap (first_fault c) (drop_of_length-le ms le)

-- what verifying a list answered
abbrev pub Verifies : {X : Type 0} → Result X SealFault → Configuration → List (Signed Body) → Type 0
Verifies r c ms = MatchResult r (λ _. first_fault c ms ≡ None) (λ f. MemoryOr f (first_fault c ms))

pub verified_rest : {X : Type 0} (r : Result X SealFault) (c : Configuration) (m : Signed Body) (ms others : List (Signed Body)) → own_fault c m ≡ None → ms ≡ others → Verifies r c ms → Verifies r c (m ∷ others)
verified_rest r c m ms others none is verified =
    let same : first_fault c ms ≡ first_fault c (m ∷ others) = ap (first_fault c) is ∙ sym (first_is_not c m others none) in
    subst (λ (o : Option SealFault). MatchResult r (λ _. o ≡ None) (λ f. MemoryOr f o)) same verified
