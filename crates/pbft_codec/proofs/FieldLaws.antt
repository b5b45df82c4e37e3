-- The laws of fields, of lists and of signed bodies.
use Rattle.std.proofs.Common.{◌≡◌, ℕ, ◌^◌, ◌<◌, ◌≤◌, Bool, true, false, cond, eqb, leb, ltb, List, [], ◌∷◌, ◌++◌, length, take, drop, Ok, Err, refl, sym, ap, subst, inl, inr, append_assoc, arith}
use Rattle.std.specs.Int.{Width, w32, w64, byte_len, from_be_bytes, to_be_bytes}
use Rattle.std.specs.List.{flat_map}
use Rattle.std.proofs.lemmas.Bool.{leb-false, lt-leb, ltb-false, le-ltb, lt-ltb, eqb-true}
use Rattle.std.proofs.lemmas.List.{take_at, drop_at, take-append-drop, length-append, length-take}
use Rattle.std.proofs.lemmas.Nat.{be_bytes_4, be_bytes_8, from_be_bytes-to_be_bytes_4, from_be_bytes-to_be_bytes_8}
use Rattle.host_types.specs.declared.Digest.{Digest}
use Rattle.codec_fields.specs.declared.fault.CodecFault.{CodecFault}
use Rattle.codec_fields.specs.declared.fault.CodecFault.TheVariants.{Truncated, BadField, NotAscending}
use Rattle.pbft_codec.specs.declared.signed.Role.{Role}
use Rattle.pbft_codec.specs.declared.signed.Role.TheVariants.{Replica, Client}
use Rattle.codec_fields.specs.Fields.{◌>>=◌, Reading, pair, number_at, number_unless, view_at, client_at, sequence_number_at, digest_at, length_prefixed_at, count_at, id_at}
use Rattle.pbft_codec.specs.Reading.{whole, many_at, bounded_list_at, role_at, framed, signed_at}
use Rattle.pbft_codec.specs.Limits.{IsSequenceNumber, IsView, IsDigest}
use Rattle.pbft_codec.proofs.Widths.{LengthInRange, SignedWidths}
use Rattle.pbft_codec.specs.Layouts.{role_byte, view, client, number, length_prefixed, encoded_list, signed}
use Rattle.pbft_codec.proofs.Forms.{IsBytes, IsBytes-drop, IsBytes-take, IsBytes-rest, bind_ok, guard_ok, ok_is, Takes, Takes-then, IsForm, form_pair, form_map, whole_takes, whole_again, AreForms, AllFrom, IsCut, cut}

-- ---- numbers

pub record IsWide (w : Width) (limit : ℕ) : Type 0 where
  pub len : (n : ℕ) → length (to_be_bytes w n) ≡ byte_len w
  pub back : (bytes : List ℕ) → length bytes ≡ byte_len w → IsBytes bytes → to_be_bytes w (from_be_bytes w bytes) ≡ bytes
  pub again : (n : ℕ) → n < limit → from_be_bytes w (to_be_bytes w n) ≡ n
  pub below : (bytes : List ℕ) → IsBytes bytes → from_be_bytes w bytes < limit

pub wide32 : IsWide w32 (2 ^ 32)
wide32 = record {
  len = λ n. refl;
  back = λ bytes len fits. be_bytes_4 bytes _ len fits refl;
  again = λ n lt. from_be_bytes-to_be_bytes_4 n lt;
  below = λ bytes fits. omega (arith, fits 0, fits 1, fits 2, fits 3);
}

pub wide64 : IsWide w64 (2 ^ 64)
wide64 = record {
  len = λ n. refl;
  back = λ bytes len fits. be_bytes_8 bytes _ len fits refl;
  again = λ n lt. from_be_bytes-to_be_bytes_8 n lt;
  below = λ bytes fits. omega (arith, fits 0, fits 1, fits 2, fits 3, fits 4, fits 5, fits 6, fits 7);
}

number_takes : (w : Width) (limit : ℕ) (wide : IsWide w limit) (bytes : List ℕ) (x : ℕ × List ℕ) → IsBytes bytes → number_at w bytes ≡ Ok x → Takes bytes (to_be_bytes w x.0) x.1 × (x.0 < limit)
number_takes w limit wide bytes x fits e =
    let g = guard_ok (ltb (length bytes) (byte_len w)) Truncated (from_be_bytes w (take (byte_len w) bytes), drop (byte_len w) bytes) x e in
    let long : byte_len w ≤ length bytes = ltb-false _ _ g.0 in
    let n-is : from_be_bytes w (take (byte_len w) bytes) ≡ x.0 = ap (λ (p : ℕ × List ℕ). p.0) g.1 in
    let rest-is : drop (byte_len w) bytes ≡ x.1 = ap (λ (p : ℕ × List ℕ). p.1) g.1 in
    let front : to_be_bytes w x.0 ≡ take (byte_len w) bytes = rw (← n-is) (wide.back (take (byte_len w) bytes) (omega (arith, length-take (byte_len w) bytes)) (IsBytes-take (byte_len w) bytes fits)) in
    (record { parts = rw (front, ← rest-is) (sym (take-append-drop (byte_len w) bytes)); rest_bytes = rw (← rest-is) (IsBytes-drop (byte_len w) bytes fits) }, rw (← n-is) (wide.below (take (byte_len w) bytes) (IsBytes-take (byte_len w) bytes fits)))

number_again : (w : Width) (limit : ℕ) (wide : IsWide w limit) (n : ℕ) (rest : List ℕ) → n < limit → number_at w (to_be_bytes w n ++ rest) ≡ Ok (n, rest)
number_again w limit wide n rest lt =
    let len = wide.len n in
    let long : ltb (length (to_be_bytes w n ++ rest)) (byte_len w) ≡ false = le-ltb _ _ (omega (arith, length-append (to_be_bytes w n) rest)) in
    rw (long, take_at (to_be_bytes w n) rest (byte_len w) len, drop_at (to_be_bytes w n) rest (byte_len w) len, wide.again n lt) refl

number_short : (w : Width) (limit : ℕ) (wide : IsWide w limit) (n : ℕ) (front back : List ℕ) → 0 < length back → to_be_bytes w n ≡ front ++ back → number_at w front ≡ Err Truncated
number_short w limit wide n front back more e =
    let few : ltb (length front) (byte_len w) ≡ true = lt-ltb _ _ (omega (arith, wide.len n, ap length e, length-append front back)) in
    rw few refl

pub form_number : (w : Width) (limit : ℕ) → IsWide w limit → IsForm (number_at w) (to_be_bytes w) (λ n. n < limit)
form_number w limit wide = record {
  takes = number_takes w limit wide;
  again = number_again w limit wide;
  short = λ n front back lt more e. number_short w limit wide n front back more e;
}

pub form_view : IsForm view_at view IsView
unfolding view_at
form_view = form_map (number_at w32) (to_be_bytes w32) (λ n. n < 2 ^ 32) (λ n. record { 0 = n }) (λ v. v.0) view IsView (λ _. refl) (λ _. refl) (λ n lt. lt) (λ v lt. lt) (form_number w32 (2 ^ 32) wide32)

pub form_client : IsForm client_at client (λ c. c.0 < 2 ^ 32)
unfolding client_at
form_client = form_map (number_at w32) (to_be_bytes w32) (λ n. n < 2 ^ 32) (λ n. record { 0 = n }) (λ v. v.0) client (λ c. c.0 < 2 ^ 32) (λ _. refl) (λ _. refl) (λ n lt. lt) (λ v lt. lt) (form_number w32 (2 ^ 32) wide32)

-- ---- a number with a test behind it

form_unless : (w : Width) (limit : ℕ) (refused : ℕ → Bool) (fault : CodecFault) (P : ℕ → Type 0) → IsWide w limit → ((n : ℕ) → refused n ≡ false → P n) → ((n : ℕ) → P n → refused n ≡ false) → IsForm (number_unless w refused fault) (to_be_bytes w) (λ n. P n × (n < limit))
form_unless w limit refused fault P wide means holds = record {
  takes = λ bytes x fits e.
      let a = bind_ok (number_at w bytes) (λ n. cond (refused n.0) (Err fault) (Ok n)) x e in
      let one = number_takes w limit wide bytes a.0 fits a.1 in
      let g = guard_ok (refused a.0.0) fault a.0 x a.2 in
      subst (λ (y : ℕ × List ℕ). Takes bytes (to_be_bytes w y.0) y.1 × (P y.0 × (y.0 < limit))) g.1 (one.0, (means a.0.0 g.0, one.1));
  again = λ n rest fits. rw (number_again w limit wide n rest fits.1, holds n fits.0) refl;
  short = λ n front back fits more e. rw (number_short w limit wide n front back more e) refl;
}

pub form_sequence_number : IsForm sequence_number_at number IsSequenceNumber
unfolding sequence_number_at
form_sequence_number =
    form_map (number_unless w64 (λ n. leb (2 ^ 48) n) BadField) (to_be_bytes w64) (λ n. (n < 2 ^ 48) × (n < 2 ^ 64)) (λ n. record { 0 = n }) (λ n. n.0) number IsSequenceNumber (λ _. refl) (λ _. refl) (λ n fits. fits.0) (λ n lt. (lt, omega (arith, lt)))
    (form_unless w64 (2 ^ 64) (λ n. leb (2 ^ 48) n) BadField (λ n. n < 2 ^ 48) wide64 (λ n e. leb-false _ _ e) (λ n lt. lt-leb _ _ lt))

pub form_count : (max : ℕ) → IsForm (count_at max) (to_be_bytes w32) (λ n. (n ≤ max) × (n < 2 ^ 32))
unfolding count_at
form_count max = form_unless w32 (2 ^ 32) (λ n. ltb max n) BadField (λ n. n ≤ max) wide32 (λ n e. ltb-false _ _ e) (λ n le. le-ltb _ _ le)

pub form_id : (low : ℕ) → IsForm (id_at low) (to_be_bytes w32) (λ n. (low ≤ n) × (n < 2 ^ 32))
unfolding id_at
form_id low = form_unless w32 (2 ^ 32) (λ n. ltb n low) NotAscending (λ n. low ≤ n) wide32 (λ n e. ltb-false _ _ e) (λ n le. le-ltb _ _ le)

-- ---- digests, roles

pub form_digest : IsForm digest_at (λ d. d.0) IsDigest
unfolding digest_at
form_digest = record {
  takes = λ bytes x fits e.
      let out : Digest × List ℕ = (record { 0 = take 32 bytes }, drop 32 bytes) in
      let g = guard_ok (ltb (length bytes) 32) Truncated out x e in
      let long : 32 ≤ length bytes = ltb-false _ _ g.0 in
      let len : length (take 32 bytes) ≡ 32 = omega (arith, length-take 32 bytes) in
      subst (λ (y : Digest × List ℕ). Takes bytes y.0.0 y.1 × IsDigest y.0) g.1 (record { parts = sym (take-append-drop 32 bytes); rest_bytes = IsBytes-drop 32 bytes fits }, len);
  again = λ d rest len.
      let long : ltb (length (d.0 ++ rest)) 32 ≡ false = le-ltb _ _ (omega (arith, len, length-append d.0 rest)) in
      rw (long, take_at d.0 rest 32 len, drop_at d.0 rest 32 len) refl;
  short = λ d front back len more e.
      let few : ltb (length front) 32 ≡ true = lt-ltb _ _ (omega (arith, len, ap length e, length-append front back)) in
      rw few refl;
}

role_takes : (bytes : List ℕ) (x : Role × List ℕ) → IsBytes bytes → role_at bytes ≡ Ok x → Takes bytes (role_byte x.0 ∷ []) x.1 × Unit {0}
unfolding role_at
role_takes [] x fits e = absurd cc
role_takes (b ∷ rest) x fits e = by_first (eqb b 1) refl where
  by_second : (t : Bool) → eqb b 2 ≡ t → cond t (Ok (Client, rest)) (Err BadField) ≡ Ok x → Takes (b ∷ rest) (role_byte x.0 ∷ []) x.1 × Unit {0}
  by_second true is e' =
      let k : b ≡ 2 = eqb-true _ _ is in
      subst (λ (y : Role × List ℕ). Takes (b ∷ rest) (role_byte y.0 ∷ []) y.1 × Unit {0}) (ok_is (Client, rest) x e') (record { parts = ap (λ (c : ℕ). c ∷ rest) k; rest_bytes = IsBytes-rest b rest fits }, tt)
  by_second false is e' = absurd cc

  by_first : (t : Bool) → eqb b 1 ≡ t → Takes (b ∷ rest) (role_byte x.0 ∷ []) x.1 × Unit {0}
  by_first true is =
      let k : b ≡ 1 = eqb-true _ _ is in
      let e' : cond true (Ok (Replica, rest)) (cond (eqb b 2) (Ok (Client, rest)) (Err BadField)) ≡ Ok x = subst (λ (t : Bool). cond t (Ok (Replica, rest)) (cond (eqb b 2) (Ok (Client, rest)) (Err BadField)) ≡ Ok x) is e in
      subst (λ (y : Role × List ℕ). Takes (b ∷ rest) (role_byte y.0 ∷ []) y.1 × Unit {0}) (ok_is (Replica, rest) x e') (record { parts = ap (λ (c : ℕ). c ∷ rest) k; rest_bytes = IsBytes-rest b rest fits }, tt)
  by_first false is =
      let e' : cond false (Ok (Replica, rest)) (cond (eqb b 2) (Ok (Client, rest)) (Err BadField)) ≡ Ok x = subst (λ (t : Bool). cond t (Ok (Replica, rest)) (cond (eqb b 2) (Ok (Client, rest)) (Err BadField)) ≡ Ok x) is e in
      by_second (eqb b 2) refl e'

role_again : (r : Role) (rest : List ℕ) → role_at (role_byte r ∷ rest) ≡ Ok (r, rest)
unfolding role_at
role_again Replica rest = refl
role_again Client rest = refl

-- one byte that is cut off leaves nothing
pub nothing_left : (b : ℕ) (front back : List ℕ) → 0 < length back → b ∷ [] ≡ front ++ back → front ≡ []
nothing_left b [] back more e = refl
nothing_left b (c ∷ front) back more e = absurd (omega (arith, ap length e, length-append front back))

role_none : (front : List ℕ) → front ≡ [] → role_at front ≡ Err Truncated
unfolding role_at
role_none front e = rw e refl

pub form_role : IsForm role_at (λ r. role_byte r ∷ []) (λ _. Unit {0})
form_role = record {
  takes = role_takes;
  again = λ r rest fits. role_again r rest;
  short = λ r front back fits more e. role_none front (nothing_left (role_byte r) front back more e);
}

-- ---- lengths and bytes

length_prefixed_takes : (bytes : List ℕ) (x : List ℕ × List ℕ) → IsBytes bytes → length_prefixed_at bytes ≡ Ok x → (Takes bytes (length_prefixed x.0) x.1 × LengthInRange x.0) × IsBytes x.0
unfolding length_prefixed_at length_prefixed
length_prefixed_takes bytes x fits e =
    let b = bind_ok (number_at w32 bytes) (λ n. cond (ltb (length n.1) n.0) (Err Truncated) (Ok (take n.0 n.1, drop n.0 n.1))) x e in
    let n = b.0 in
    let t = number_takes w32 (2 ^ 32) wide32 bytes n fits b.1 in
    let g = guard_ok (ltb (length n.1) n.0) Truncated (take n.0 n.1, drop n.0 n.1) x b.2 in
    let long : n.0 ≤ length n.1 = ltb-false _ _ g.0 in
    let len : length (take n.0 n.1) ≡ n.0 = omega (arith, length-take n.0 n.1) in
    let second : Takes n.1 (take n.0 n.1) (drop n.0 n.1) = record { parts = sym (take-append-drop n.0 n.1); rest_bytes = IsBytes-drop n.0 n.1 t.0.rest_bytes } in
    let pair = Takes-then bytes (to_be_bytes w32 n.0) n.1 (take n.0 n.1) (drop n.0 n.1) t.0 second in
    let all : Takes bytes (length_prefixed (take n.0 n.1)) (drop n.0 n.1) = subst (λ (k : ℕ). Takes bytes (to_be_bytes w32 k ++ take n.0 n.1) (drop n.0 n.1)) (sym len) pair in
    subst (λ (p : List ℕ × List ℕ). (Takes bytes (length_prefixed p.0) p.1 × LengthInRange p.0) × IsBytes p.0) g.1 ((all, omega (arith, t.1)), IsBytes-take n.0 n.1 t.0.rest_bytes)

length_prefixed_again : (text rest : List ℕ) → LengthInRange text → length_prefixed_at (length_prefixed text ++ rest) ≡ Ok (text, rest)
unfolding length_prefixed_at length_prefixed
length_prefixed_again text rest lt =
    let long : ltb (length (text ++ rest)) (length text) ≡ false = le-ltb _ _ (omega (arith, length-append text rest)) in
    rw (number_again w32 (2 ^ 32) wide32 (length text) (text ++ rest) lt, long, take_at text rest (length text) refl, drop_at text rest (length text) refl) refl

length_prefixed_short : (text front back : List ℕ) → LengthInRange text → 0 < length back → length_prefixed text ≡ front ++ back → length_prefixed_at front ≡ Err Truncated
unfolding length_prefixed_at length_prefixed
length_prefixed_short text front back lt more e = by_cut (cut (to_be_bytes w32 (length text)) text front back e) where
  by_cut : IsCut (to_be_bytes w32 (length text)) text front back → length_prefixed_at front ≡ Err Truncated
  by_cut (inl p) = rw (number_short w32 (2 ^ 32) wide32 (length text) front p.0 p.1 p.2) refl
  by_cut (inr p) =
      let few : ltb (length p.0) (length text) ≡ true = lt-ltb _ _ (omega (arith, ap length p.2, length-append p.0 back)) in
      rw (p.1, number_again w32 (2 ^ 32) wide32 (length text) p.0 lt, few) refl

pub form_length_prefixed : IsForm length_prefixed_at length_prefixed LengthInRange
form_length_prefixed = record {
  takes = λ bytes x fits e. (length_prefixed_takes bytes x fits e).0;
  again = length_prefixed_again;
  short = length_prefixed_short;
}

pub form_filling : {A : Type 0} (reading : Reading A) (s : A → List ℕ) (F : A → Type 0) → IsForm reading s F → IsForm (framed reading) (λ x. length_prefixed (s x)) (λ x. F x × LengthInRange (s x))
unfolding framed
form_filling {A} reading s F f = record {
  takes = λ bytes x fits e.
      let a = bind_ok (length_prefixed_at bytes) (λ inside. whole reading inside.0 >>= λ value. Ok (value, inside.1)) x e in
      let b = bind_ok (whole reading a.0.0) (λ value. Ok (value, a.0.1)) x a.2 in
      let one = length_prefixed_takes bytes a.0 fits a.1 in
      let two = whole_takes reading s F a.0.0 b.0 f one.1 b.1 in
      let out : A × List ℕ = (b.0, a.0.1) in
      let text : Takes bytes (length_prefixed (s b.0)) a.0.1 = subst (λ (t : List ℕ). Takes bytes (length_prefixed t) a.0.1) two.0 one.0.0 in
      let len : LengthInRange (s b.0) = subst (λ (t : List ℕ). LengthInRange t) two.0 one.0.1 in
      subst (λ (y : A × List ℕ). Takes bytes (length_prefixed (s y.0)) y.1 × (F y.0 × LengthInRange (s y.0))) (ok_is out x b.2) (text, (two.1, len));
  again = λ x rest fits. rw (length_prefixed_again (s x) rest fits.1, whole_again reading s F x f fits.0) refl;
  short = λ x front back fits more e. rw (length_prefixed_short (s x) front back fits.1 more e) refl;
}

-- ---- signed bodies

pub form_signed : {B : Type 0} (reading : Reading B) (s : B → List ℕ) (F : B → Type 0) (low : ℕ) → IsForm reading s F → IsForm (signed_at reading low) (signed s) (λ m. (low ≤ m.id) × SignedWidths s F m)
unfolding signed_at signed
form_signed {B} reading s F low f =
    form_map (pair role_at (pair (id_at low) (pair (framed reading) length_prefixed_at)))
    (λ p. (role_byte p.0 ∷ []) ++ (to_be_bytes w32 p.1.0 ++ (length_prefixed (s p.1.1.0) ++ length_prefixed p.1.1.1)))
    (λ p. Unit {0} × (((low ≤ p.1.0) × (p.1.0 < 2 ^ 32)) × ((F p.1.1.0 × LengthInRange (s p.1.1.0)) × LengthInRange p.1.1.1)))
    (λ p. record { role = p.0; id = p.1.0; body = p.1.1.0; sig = p.1.1.1 }) (λ m. (m.role, (m.id, (m.body, m.sig))))
    (signed s) (λ m. (low ≤ m.id) × SignedWidths s F m)
    (λ _. refl) (λ _. refl)
    (λ p fits. (fits.1.0.0, record { id_in_range = fits.1.0.1; body_in_range = fits.1.1.0.0; body_length_in_range = fits.1.1.0.1; sig_length_in_range = fits.1.1.1 }))
    (λ m fits. (tt, ((fits.0, fits.1.id_in_range), ((fits.1.body_in_range, fits.1.body_length_in_range), fits.1.sig_length_in_range))))
    (form_pair role_at (λ r. role_byte r ∷ []) (λ _. Unit {0}) (pair (id_at low) (pair (framed reading) length_prefixed_at)) (λ p. to_be_bytes w32 p.0 ++ (length_prefixed (s p.1.0) ++ length_prefixed p.1.1)) (λ p. ((low ≤ p.0) × (p.0 < 2 ^ 32)) × ((F p.1.0 × LengthInRange (s p.1.0)) × LengthInRange p.1.1)) form_role
    (form_pair (id_at low) (to_be_bytes w32) (λ n. (low ≤ n) × (n < 2 ^ 32)) (pair (framed reading) length_prefixed_at) (λ p. length_prefixed (s p.0) ++ length_prefixed p.1) (λ p. (F p.0 × LengthInRange (s p.0)) × LengthInRange p.1) (form_id low)
    (form_pair (framed reading) (λ x. length_prefixed (s x)) (λ x. F x × LengthInRange (s x)) length_prefixed_at length_prefixed LengthInRange (form_filling reading s F f) form_length_prefixed)))

-- ---- lists

pub form_listed : {A : Type 0} (max : ℕ) (reading : ℕ → Reading A) (s : A → List ℕ) (F : ℕ → A → Type 0) (next : A → ℕ) → max < 2 ^ 32 → AreForms reading s F next → IsForm (bounded_list_at max reading next) (encoded_list s) (λ xs. (length xs ≤ max) × AllFrom F next 0 xs)
unfolding encoded_list
form_listed {A} max reading s F next small f = record {
  takes = λ bytes x fits e.
      let a = bind_ok (count_at max bytes) (λ n. many_at reading next n.0 0 n.1) x e in
      let one = (form_count max).takes bytes a.0 fits a.1 in
      let two = f.takes a.0.0 0 a.0.1 x one.0.rest_bytes a.2 in
      let text = Takes-then bytes (to_be_bytes w32 a.0.0) a.0.1 (flat_map s x.0) x.1 one.0 two.0 in
      (subst (λ (n : ℕ). Takes bytes (to_be_bytes w32 n ++ flat_map s x.0) x.1) (sym two.1.0) text, (omega (arith, two.1.0, one.1.0), two.1.1));
  again = λ xs rest fits.
      let fit : (length xs ≤ max) × (length xs < 2 ^ 32) = (fits.0, omega (arith, fits.0, small)) in
      rw (append_assoc (to_be_bytes w32 (length xs)) (flat_map s xs) rest, (form_count max).again (length xs) (flat_map s xs ++ rest) fit) (f.again 0 xs rest fits.1);
  short = λ xs front back fits more e. by_cut xs front back fits more (cut (to_be_bytes w32 (length xs)) (flat_map s xs) front back e);
} where
  by_cut : (xs : List A) (front back : List ℕ) → (length xs ≤ max) × AllFrom F next 0 xs → 0 < length back → IsCut (to_be_bytes w32 (length xs)) (flat_map s xs) front back → bounded_list_at max reading next front ≡ Err Truncated
  by_cut xs front back fits more (inl p) = rw ((form_count max).short (length xs) front p.0 (fits.0, omega (arith, fits.0, small)) p.1 p.2) refl
  by_cut xs front back fits more (inr p) = rw (p.1, (form_count max).again (length xs) p.0 (fits.0, omega (arith, fits.0, small))) (f.short 0 xs p.0 back fits.1 more p.2)
