-- What a writer holds, piece by piece.
use Rattle.std.proofs.Common.{◌≡◌, ◌⊎◌, inl, inr, ℕ, ◌+◌, ◌-◌, ◌<◌, ◌≤◌, List, [], ◌++◌, length, take, drop, Option, Some, None, sym, ap, subst, ◌∙◌, arith}
use Rattle.std.specs.Io.KnownBytes.{Appends, Keeps}
use Rattle.std.proofs.lemmas.List.{append_assoc, append-nil, drop-take, length-append, length-drop, take-append-drop, take-take, take_rest}
use Rattle.std.proofs.lemmas.Bool.{cases_lt}
use Rattle.world_script.specs.Writing.{AppendsFront}

pub kept : (a b c : Option (List ℕ)) (t : List ℕ) → Appends a b t → Keeps b c → Appends a c t
kept None b c t w k = tt
kept (Some xs) None c t w k = absurd w
kept (Some xs) (Some ys) None t w k = absurd k
kept (Some xs) (Some ys) (Some zs) t w k = k ∙ w

pub both : (a b c : Option (List ℕ)) (s t : List ℕ) → Appends a b s → Appends b c t → Appends a c (s ++ t)
both None b c s t w v = tt
both (Some xs) None c s t w v = absurd w
both (Some xs) (Some ys) None s t w v = absurd v
both (Some xs) (Some ys) (Some zs) s t w v = v ∙ ap (λ (us : List ℕ). us ++ t) w ∙ append_assoc xs s t

pub nothing : (a : Option (List ℕ)) → Appends a a []
nothing None = tt
nothing (Some xs) = sym (append-nil xs)

pub same_appends : (a b : Option (List ℕ)) (s t : List ℕ) → Appends a b s → s ≡ t → Appends a b t
same_appends a b s t w same = subst (Appends a b) same w

pub front_at : (a b : Option (List ℕ)) (n : ℕ) (text printed : List ℕ) → printed ≡ text → n < length printed → Appends a b (take n printed) → AppendsFront a b text
front_at a b n text printed same below w = record {
  front = take n printed;
  rest = drop n printed;
  is = sym same ∙ sym (take-append-drop n printed);
  is_left = let left = length-drop n printed in omega (arith, below, left);
  appends = w;
}

-- the first bytes of a text behind another
pub front_then : (a b c : Option (List ℕ)) (s t : List ℕ) → Appends a b s → AppendsFront b c t → AppendsFront a c (s ++ t)
front_then a b c s t w v = record {
  front = s ++ v.front;
  rest = v.rest;
  is = ap (λ (us : List ℕ). s ++ us) v.is ∙ sym (append_assoc s v.front v.rest);
  is_left = v.is_left;
  appends = both a b c s v.front w v.appends;
}

-- the first bytes of a text are those of a longer one
pub front_more : (a b : Option (List ℕ)) (s t : List ℕ) → AppendsFront a b s → AppendsFront a b (s ++ t)
front_more a b s t v = record {
  front = v.front;
  rest = v.rest ++ t;
  is = ap (λ (us : List ℕ). us ++ t) v.is ∙ append_assoc v.front v.rest t;
  is_left = let long = length-append v.rest t in let left = v.is_left in omega (arith, long, left);
  appends = v.appends;
}

-- the first n bytes, and so many more
taken : (n m : ℕ) (bs : List ℕ) → take n bs ++ take m (drop n bs) ≡ take (n + m) bs
taken n m bs =
    ap (λ (xs : List ℕ). xs ++ take m (drop n bs)) (sym (take-take n (n + m) bs (more n m))) ∙ ap (λ (xs : List ℕ). take n (take (n + m) bs) ++ xs) (sym (drop-take n m bs))
    ∙ take-append-drop n (take (n + m) bs) where
      more : (n m : ℕ) → n ≤ n + m
      more n m = omega arith

pub more_written : (a b c : Option (List ℕ)) (n m : ℕ) (bs : List ℕ) → Appends a b (take n bs) → Appends b c (take m (take (length bs - n) (drop n bs))) → Appends a c (take (n + m) bs)
more_written a b c n m bs w v =
    same_appends a c (take n bs ++ take m (drop n bs)) (take (n + m) bs)
    (both a b c (take n bs) (take m (drop n bs)) w (same_appends b c (take m (take (length bs - n) (drop n bs))) (take m (drop n bs)) v (ap (take m) (take_rest bs n)))) (taken n m bs)

pub still_within : (n m : ℕ) (bs : List ℕ) → n ≤ length bs → m ≤ length (take (length bs - n) (drop n bs)) → n + m ≤ length bs
still_within n m bs below some =
    let long = ap length (take_rest bs n) ∙ length-drop n bs in omega (arith, below, some, long)

pub below_end : (n m : ℕ) → n ≤ m → (n ≡ m → ⊥) → n < m
below_end n m within other = by (cases_lt n m) where
  by : (n < m) ⊎ (m ≤ n) → n < m
  by (inl less) = less
  by (inr more) = absurd (other (omega (arith, within, more)))
