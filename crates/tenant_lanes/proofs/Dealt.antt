-- What is dealt to the lanes is all that was there, each part to one of them.
use Rattle.std.proofs.Common.{◌≡◌, ◌⊎◌, ℕ, zero, suc, ◌+◌, ◌%◌, ◌<◌, ◌≤◌, Bool, true, false, cond, ◌||◌, not, eqb, ltb, List, [], ◌∷◌, ◌++◌, length, get_or, map, take, Option, Some, None, refl, sym, ap, ◌∙◌, arith, inl, inr}
use Rattle.std.specs.Prelude.{IfSome, All, slice_get, is_none}
use Rattle.std.specs.List.{list_any, range_with_len}
use Rattle.std.proofs.lemmas.Bool.{cases_eq, cases_lt, eq-eqb, ne_eqb, lt-ltb, le-ltb, or_left, or_right}
use Rattle.std.proofs.lemmas.Option.{slice_get-get_or}
use Rattle.std.proofs.lemmas.List.{same_lists, get_or-map, get_or_past, get_or_default, get_or_append_left, get_or_push, length_push, length-map, take_more, take_all}
use Rattle.std.proofs.lemmas.List.FromFn.{length-map-range_with_len, get_or-map-range_with_len}
use Rattle.service_model.specs.TenantStates.{TenantState, empty_tenant}
use Rattle.tenant_lanes.specs.declared.lane.Lane.{Lane}
use Rattle.tenant_lanes.specs.Dealing.{is_at, has_requests, turns, lane_of, lane_count, slots_where}
use Rattle.tenant_lanes.specs.Lanes.{IsDealt}
use Rattle.tenant_lanes.specs.Runs.{Slots, or_other, filled, filled_by, AreApart, NoneAsked, picked, left}
use Rattle.tenant_lanes.proofs.Filling.{get_or-filled, length-filled}

-- ---- lanes by number

-- the tenant's lane is before this one
abbrev pub before : ℕ → Option ℕ → Bool
before k None = false
before k (Some lane) = ltb lane k

-- it has no lane, or one before this
abbrev pub upto : ℕ → Option ℕ → Bool
upto k lane = is_none lane || before k lane

picked_once : {X : Type 0} (k : ℕ) (lane : Option ℕ) (x : Option X) → cond (is_at k lane) (cond (not (before k lane)) x None) None ≡ cond (is_at k lane) x None
picked_once k None x = refl
picked_once {X} k (Some lane) x = elim (cases_eq lane k) [
  | inl same ↦ ap (λ (b : Bool). cond (eqb lane k) (cond (not b) x None) None) (le-ltb lane k (omega (arith, same)))
  | inr other ↦ ap (λ (b : Bool). cond b (cond (not (ltb lane k)) x None) None) (ne_eqb lane k other) ∙ sym (ap (λ (b : Bool). cond b x None) (ne_eqb lane k other))
]

left_over : {X : Type 0} (k : ℕ) (lane : Option ℕ) (x : Option X) → cond (is_at k lane) None (cond (not (before k lane)) x None) ≡ cond (not (before (k + 1) lane)) x None
left_over k None x = refl
left_over {X} k (Some lane) x = elim (cases_lt lane k) [
  | inl less ↦
      (λ i. cond (ne_eqb lane k (omega (arith, less)) i) None (cond (not (lt-ltb lane k less i)) x None))
      ∙ sym (ap (λ (b : Bool). cond (not b) x None) (lt-ltb lane (k + 1) (omega (arith, less))))
  | inr more ↦ elim (cases_eq lane k) [
    | inl same ↦
        ap (λ (b : Bool). cond b None (cond (not (ltb lane k)) x None)) (eq-eqb lane k same)
        ∙ sym (ap (λ (b : Bool). cond (not b) x None) (lt-ltb lane (k + 1) (omega (arith, same))))
    | inr other ↦
        (λ i. cond (ne_eqb lane k other i) None (cond (not (le-ltb lane k more i)) x None))
        ∙ sym (ap (λ (b : Bool). cond (not b) x None) (le-ltb lane (k + 1) (omega (arith, more, other))))
  ]
]

-- what is put in: the lane's, or what was there
put_in : {X : Type 0} (k : ℕ) (lane : Option ℕ) (x : Option X) → or_other (cond (is_at k lane) x None) (cond (upto k lane) x None) ≡ cond (upto (k + 1) lane) x None
put_in k None x = refl
put_in {X} k (Some lane) x = elim (cases_lt lane k) [
  | inl less ↦
      (λ i. or_other (cond (ne_eqb lane k (omega (arith, less)) i) x None) (cond (lt-ltb lane k less i) x None))
      ∙ sym (ap (λ (b : Bool). cond b x None) (lt-ltb lane (k + 1) (omega (arith, less))))
  | inr more ↦ elim (cases_eq lane k) [
    | inl same ↦
        (λ i. or_other (cond (eq-eqb lane k same i) x None) (cond (le-ltb lane k more i) x None)) ∙ or_none x
        ∙ sym (ap (λ (b : Bool). cond b x None) (lt-ltb lane (k + 1) (omega (arith, same))))
    | inr other ↦
        (λ i. or_other (cond (ne_eqb lane k other i) x None) (cond (le-ltb lane k more i) x None))
        ∙ sym (ap (λ (b : Bool). cond b x None) (le-ltb lane (k + 1) (omega (arith, more, other))))
  ]
] where
  or_none : (y : Option X) → or_other y None ≡ y
  or_none None = refl
  or_none (Some y) = refl

-- a tenant's part is in one place
in_one : {X : Type 0} (k : ℕ) (lane : Option ℕ) (x : Option X) → (cond (is_at k lane) x None ≡ None) ⊎ (cond (upto k lane) x None ≡ None)
in_one k None x = inl refl
in_one {X} k (Some lane) x = elim (cases_eq lane k) [
  | inl same ↦ inr (ap (λ (b : Bool). cond b x None) (le-ltb lane k (omega (arith, same))))
  | inr other ↦ inl (ap (λ (b : Bool). cond b x None) (ne_eqb lane k other))
]

-- ---- slots by index

pub length_slots : (test : ℕ → Bool) (parts : List TenantState) → length (slots_where test parts) ≡ length parts
length_slots test parts = length-map-range_with_len (λ i. cond (test i) (slice_get parts i) None) 0 (length parts)

pub slot_at : (test : ℕ → Bool) (parts : List TenantState) (i : ℕ) → i < length parts → get_or (slots_where test parts) i None ≡ cond (test i) (slice_get parts i) None
slot_at test parts i lt = get_or-map-range_with_len (λ i. cond (test i) (slice_get parts i) None) 0 (length parts) i i None lt (omega arith)

slot_past : (test : ℕ → Bool) (parts : List TenantState) (i : ℕ) → length parts ≤ i → get_or (slots_where test parts) i None ≡ None
slot_past test parts i le = get_or_past (slots_where test parts) i None (omega (arith, length_slots test parts))

-- lists of slots are equal where each slot is
same_slots : (xs ys : Slots) → length xs ≡ length ys → ((i : ℕ) → i < length xs → get_or xs i None ≡ get_or ys i None) → xs ≡ ys
same_slots xs ys e each = same_lists xs ys e (λ k d lt.
    get_or_default xs k d None lt ∙ each k lt ∙ sym (get_or_default ys k d None (omega (arith, e, lt))))

slots_agree : (test other : ℕ → Bool) (parts : List TenantState) → ((i : ℕ) → i < length parts → test i ≡ other i) → slots_where test parts ≡ slots_where other parts
slots_agree test other parts agree =
    same_slots (slots_where test parts) (slots_where other parts) (length_slots test parts ∙ sym (length_slots other parts)) (λ i lt.
    let within : i < length parts = omega (arith, lt, length_slots test parts) in
    slot_at test parts i within ∙ ap (λ (b : Bool). cond b (slice_get parts i) None) (agree i within) ∙ sym (slot_at other parts i within))

-- all parts
pub slots_all : (test : ℕ → Bool) (parts : List TenantState) → ((i : ℕ) → i < length parts → test i ≡ true) → slots_where test parts ≡ map Some parts
slots_all test parts all =
    let many : length (map Some parts) ≡ length parts = length-map parts Some in
    same_slots (slots_where test parts) (map Some parts) (length_slots test parts ∙ sym many) (λ i lt.
    let within : i < length parts = omega (arith, lt, length_slots test parts) in
    slot_at test parts i within ∙ ap (λ (b : Bool). cond b (slice_get parts i) None) (all i within) ∙ slice_get-get_or parts i (empty_tenant 0) within ∙ sym (get_or-map Some parts i (empty_tenant 0) None within))

any_get : {X : Type 0} (p : X → Bool) (xs : List X) (k : ℕ) (d : X) → k < length xs → p (get_or xs k d) ≡ true → list_any p xs ≡ true
any_get p [] k d lt e = absurd (omega arith)
any_get p (x ∷ xs) zero d lt e = or_left (p x) (list_any p xs) e
any_get p (x ∷ xs) (suc k) d lt e = or_right (p x) (list_any p xs) (any_get p xs k d (omega arith) e)

pub filled_by_last : (lanes : List Lane) (lane : Lane) (slots : Slots) → filled_by (lanes ++ lane ∷ []) slots ≡ filled lane.slots.items (filled_by lanes slots)
filled_by_last [] lane slots = refl
filled_by_last (first ∷ lanes) lane slots = filled_by_last lanes lane (filled first.slots.items slots)

pub filled_by_more : (lanes : List Lane) (k : ℕ) (d : Lane) (slots : Slots) → k < length lanes → filled_by (take (k + 1) lanes) slots ≡ filled (get_or lanes k d).slots.items (filled_by (take k lanes) slots)
filled_by_more lanes k d slots lt = ap (λ (ls : List Lane). filled_by ls slots) (take_more lanes k d lt) ∙ filled_by_last (take k lanes) (get_or lanes k d) slots

-- ---- dealing

-- so many lanes are dealt
pub record DealtTo (workers : ℕ) (places : List (Option ℕ)) (parts : List TenantState) (k : ℕ) (lanes : List Lane) (slots : Slots) : Type 0 where
  pub count : length lanes ≡ k
  pub numbers : (j : ℕ) (d : Lane) → j < length lanes → (get_or lanes j d).number ≡ j
  pub own : (j : ℕ) (d : Lane) → j < length lanes → (get_or lanes j d).slots.items ≡ slots_where (λ index. is_at j (lane_of workers places index)) parts
  pub remain : slots ≡ slots_where (λ index. not (before k (lane_of workers places index))) parts

module _ (workers : ℕ) (places : List (Option ℕ)) (parts : List TenantState) where
  abbrev pub lane : ℕ → Option ℕ
  lane i = lane_of workers places i

  abbrev pub numbers : List (Option ℕ)
  numbers = map lane (range_with_len 0 (length parts))

  -- what is left in the slots after so many lanes, and what a lane has
  abbrev pub remaining : ℕ → Slots
  remaining k = slots_where (λ i. not (before k (lane i))) parts

  abbrev pub own : ℕ → Slots
  own k = slots_where (λ i. is_at k (lane i)) parts

  abbrev pub reached : ℕ → Slots
  reached k = slots_where (λ i. upto k (lane i)) parts

  number_at : (i : ℕ) → i < length parts → get_or numbers i None ≡ lane i
  number_at i lt = get_or-map-range_with_len lane 0 (length parts) i i None lt (omega arith)

  pub own_picked : (k : ℕ) → picked k numbers (remaining k) ≡ own k
  own_picked k =
      let slots = remaining k in
      let many : length slots ≡ length parts = length_slots (λ i. not (before k (lane i))) parts in
      let at = λ (i : ℕ). cond (is_at k (get_or numbers i None)) (get_or slots i None) None in
      let long : length (picked k numbers slots) ≡ length slots = length-map-range_with_len at 0 (length slots) in
      same_slots (picked k numbers slots) (own k) (long ∙ many ∙ sym (length_slots (λ i. is_at k (lane i)) parts)) (λ i lt.
      let within : i < length parts = omega (arith, lt, long, many) in
      get_or-map-range_with_len at 0 (length slots) i i None (omega (arith, within, many)) (omega arith)
      ∙ (λ j. cond (is_at k (number_at i within j)) (slot_at (λ i. not (before k (lane i))) parts i within j) None)
      ∙ picked_once k (lane i) (slice_get parts i) ∙ sym (slot_at (λ i. is_at k (lane i)) parts i within))

  pub others_left : (k : ℕ) → left k numbers (remaining k) ≡ remaining (k + 1)
  others_left k =
      let slots = remaining k in
      let many : length slots ≡ length parts = length_slots (λ i. not (before k (lane i))) parts in
      let at = λ (i : ℕ). cond (is_at k (get_or numbers i None)) None (get_or slots i None) in
      let long : length (left k numbers slots) ≡ length slots = length-map-range_with_len at 0 (length slots) in
      same_slots (left k numbers slots) (remaining (k + 1)) (long ∙ many ∙ sym (length_slots (λ i. not (before (k + 1) (lane i))) parts)) (λ i lt.
      let within : i < length parts = omega (arith, lt, long, many) in
      get_or-map-range_with_len at 0 (length slots) i i None (omega (arith, within, many)) (omega arith)
      ∙ (λ j. cond (is_at k (number_at i within j)) None (slot_at (λ i. not (before k (lane i))) parts i within j))
      ∙ left_over k (lane i) (slice_get parts i) ∙ sym (slot_at (λ i. not (before (k + 1) (lane i))) parts i within))

  none_before : (l : Option ℕ) → before 0 l ≡ false
  none_before None = refl
  none_before (Some m) = le-ltb m 0 (omega arith)

  pub all_remain : remaining 0 ≡ map Some parts
  all_remain = slots_all (λ i. not (before 0 (lane i))) parts (λ i lt. ap not (none_before (lane i)))

  turns_less : (i n : ℕ) → i < n → has_requests places i ≡ true → turns places i < turns places n
  turns_less i zero lt e = absurd (omega arith)
  turns_less i (suc n) lt e = elim (cases_eq i n) [
    | inl same ↦
        let one : ◌≡◌ {A = ℕ} (cond (has_requests places n) 1 0) 1 = ap (λ (b : Bool). cond b 1 0) (ap (has_requests places) (sym same) ∙ e) in
        let here : turns places i ≡ turns places n = ap (turns places) same in
        omega (arith, one, here)
    | inr other ↦ let rest = turns_less i n (omega (arith, lt, other)) e in omega (arith, rest)
  ]

  -- a lane's number is below their count
  lane_below : 0 < workers → (i m : ℕ) → i < length parts → lane i ≡ Some m → m < lane_count workers places (length parts)
  lane_below some i m lt e = cases (has_requests places i) refl e where
    cases : (b : Bool) → has_requests places i ≡ b → cond b (Some (turns places i % workers)) None ≡ Some m → m < lane_count workers places (length parts)
    cases true has is =
        let same : turns places i % workers ≡ m = cc in
        let less = turns_less i (length parts) lt has in
        omega (arith, same, less, some)
    cases false has is = absurd (let bad : None ≡ Some m = is in cc)

  all_before : 0 < workers → (i : ℕ) → i < length parts → (l : Option ℕ) → lane i ≡ l → not (before (lane_count workers places (length parts)) l) ≡ is_none l
  all_before some i lt None e = refl
  all_before some i lt (Some m) e = ap not (lt-ltb m (lane_count workers places (length parts)) (lane_below some i m lt e))

  pub rest_remain : 0 < workers → remaining (lane_count workers places (length parts)) ≡ slots_where (λ i. is_none (lane i)) parts
  rest_remain some = slots_agree (λ i. not (before (lane_count workers places (length parts)) (lane i))) (λ i. is_none (lane i)) parts (λ i lt. all_before some i lt (lane i) refl)

  pub deal_none : (slots : Slots) → slots ≡ map Some parts → DealtTo workers places parts 0 [] slots
  deal_none slots e = record { count = refl; numbers = λ j d lt. absurd (omega arith); own = λ j d lt. absurd (omega arith); remain = e ∙ sym all_remain }

  -- one lane more
  pub deal_more : (k : ℕ) (lanes more : List Lane) (new : Lane) (slots after : Slots) (ns : List (Option ℕ)) → DealtTo workers places parts k lanes slots
      → ns ≡ numbers → more ≡ lanes ++ new ∷ [] → new.number ≡ k → new.slots.items ≡ picked k ns slots → after ≡ left k ns slots → DealtTo workers places parts (k + 1) more after
  deal_more k lanes more new slots after ns h e is number own_is left_is =
      let many : length more ≡ k + 1 = ap length is ∙ length_push lanes new ∙ ap (λ n. n + 1) h.count in
      let own_new : new.slots.items ≡ own k = own_is ∙ (λ i. picked k (e i) (h.remain i)) ∙ own_picked k in
      let at_end : (d : Lane) → get_or more k d ≡ new = λ d. ap (λ (ls : List Lane). get_or ls k d) is ∙ get_or_push lanes new d k h.count in
      let at_front : (j : ℕ) (d : Lane) → j < k → get_or more j d ≡ get_or lanes j d = λ j d lt. ap (λ (ls : List Lane). get_or ls j d) is ∙ get_or_append_left lanes (new ∷ []) d j (omega (arith, lt, h.count)) in
      record {
        count = many;
        numbers = λ j d lt. elim (cases_eq j k) [
          | inl same ↦ ap (λ (i : ℕ). (get_or more i d).number) same ∙ ap (λ (l : Lane). l.number) (at_end d) ∙ number ∙ sym same
          | inr other ↦
              let less : j < k = omega (arith, lt, many, other) in
              ap (λ (l : Lane). l.number) (at_front j d less) ∙ h.numbers j d (omega (arith, less, h.count))
        ];
        own = λ j d lt. elim (cases_eq j k) [
          | inl same ↦ ap (λ (i : ℕ). (get_or more i d).slots.items) same ∙ ap (λ (l : Lane). l.slots.items) (at_end d) ∙ own_new ∙ ap own (sym same)
          | inr other ↦
              let less : j < k = omega (arith, lt, many, other) in
              ap (λ (l : Lane). l.slots.items) (at_front j d less) ∙ h.own j d (omega (arith, less, h.count))
        ];
        remain = left_is ∙ (λ i. left k (e i) (h.remain i)) ∙ others_left k;
      }

  pub deal_all : (lanes : List Lane) (slots : Slots) (k : ℕ) → 0 < workers → k ≡ lane_count workers places (length parts) → DealtTo workers places parts k lanes slots → IsDealt workers places parts lanes slots
  deal_all lanes slots k some e h = record {
    count = h.count ∙ e;
    numbers = h.numbers;
    slots = h.own;
    stays = h.remain ∙ ap remaining e ∙ rest_remain some;
  }

  -- ---- putting it together again

  module _ (lanes : List Lane) (others : Slots) (dealt : IsDealt workers places parts lanes others) where
    first_reached : others ≡ reached 0
    first_reached = dealt.stays ∙ slots_agree (λ i. is_none (lane i)) (λ i. upto 0 (lane i)) parts (λ i lt. none (lane i)) where
      none : (l : Option ℕ) → is_none l ≡ upto 0 l
      none None = refl
      none (Some m) = sym (none_before (Some m))

    one_in : (k : ℕ) → filled (own k) (reached k) ≡ reached (k + 1)
    one_in k =
        let many : length (own k) ≡ length (reached k) = length_slots (λ i. is_at k (lane i)) parts ∙ sym (length_slots (λ i. upto k (lane i)) parts) in
        let long : length (filled (own k) (reached k)) ≡ length parts = length-filled (own k) (reached k) many ∙ length_slots (λ i. upto k (lane i)) parts in
        same_slots (filled (own k) (reached k)) (reached (k + 1)) (long ∙ sym (length_slots (λ i. upto (k + 1) (lane i)) parts)) (λ i lt.
        let within : i < length parts = omega (arith, lt, long) in
        get_or-filled (own k) (reached k) i many
        ∙ (λ j. or_other (slot_at (λ i. is_at k (lane i)) parts i within j) (slot_at (λ i. upto k (lane i)) parts i within j))
        ∙ put_in k (lane i) (slice_get parts i) ∙ sym (slot_at (λ i. upto (k + 1) (lane i)) parts i within))

    all_in : (d : Lane) (k : ℕ) → k ≤ length lanes → filled_by (take k lanes) others ≡ reached k
    all_in d zero le = first_reached
    all_in d (suc k) le =
        let lt : k < length lanes = omega arith in
        let next : k + 1 ≡ suc k = omega arith in
        ap (λ (n : ℕ). filled_by (take n lanes) others) (sym next) ∙ filled_by_more lanes k d others lt
        ∙ (λ j. filled (dealt.slots k d lt j) (all_in d k (omega arith) j)) ∙ one_in k ∙ ap reached next

    pub lanes_apart : AreApart others lanes
    lanes_apart k d lt = record { same_length = lengths; apart = at } where
      own_is : (get_or lanes k d).slots.items ≡ own k
      own_is = dealt.slots k d lt

      rest_is : filled_by (take k lanes) others ≡ reached k
      rest_is = all_in d k (omega arith)

      lengths : length (get_or lanes k d).slots.items ≡ length (filled_by (take k lanes) others)
      lengths = ap length own_is ∙ length_slots (λ i. is_at k (lane i)) parts ∙ sym (ap length rest_is ∙ length_slots (λ i. upto k (lane i)) parts)

      at : (i : ℕ) → (get_or (get_or lanes k d).slots.items i None ≡ None) ⊎ (get_or (filled_by (take k lanes) others) i None ≡ None)
      at i = elim (cases_lt i (length parts)) [
        | inl within ↦ elim (in_one k (lane i) (slice_get parts i)) [
          | inl e ↦ inl (ap (λ (s : Slots). get_or s i None) own_is ∙ slot_at (λ i. is_at k (lane i)) parts i within ∙ e)
          | inr e ↦ inr (ap (λ (s : Slots). get_or s i None) rest_is ∙ slot_at (λ i. upto k (lane i)) parts i within ∙ e)
        ]
        | inr past ↦ inl (ap (λ (s : Slots). get_or s i None) own_is ∙ slot_past (λ i. is_at k (lane i)) parts i past)
      ]

    pub lanes_whole : 0 < workers → filled_by lanes others ≡ map Some parts
    lanes_whole some = cases lanes refl where
      last_upto : (i : ℕ) → i < length parts → (l : Option ℕ) → lane i ≡ l → upto (length lanes) l ≡ true
      last_upto i lt None e = refl
      last_upto i lt (Some m) e = let below = lane_below some i m lt e in lt-ltb m (length lanes) (omega (arith, below, dealt.count))

      reached_all : reached (length lanes) ≡ map Some parts
      reached_all = slots_all (λ i. upto (length lanes) (lane i)) parts (λ i lt. last_upto i lt (lane i) refl)

      cases : (ls : List Lane) → lanes ≡ ls → filled_by lanes others ≡ map Some parts
      cases [] e = ap (λ (ls : List Lane). filled_by ls others) e ∙ first_reached ∙ ap (λ (ls : List Lane). reached (length ls)) (sym e) ∙ reached_all
      cases (d ∷ ls) e = ap (λ (xs : List Lane). filled_by xs others) (sym (take_all (length lanes) lanes (omega arith))) ∙ all_in d (length lanes) (omega arith) ∙ reached_all

    pub others_idle : NoneAsked others places
    others_idle k d lt = cases (get_or places k d) refl where
      none_at : (i : ℕ) → has_requests places i ≡ true → get_or others i None ≡ None
      none_at i has = elim (cases_lt i (length parts)) [
        | inl within ↦
            ap (λ (s : Slots). get_or s i None) dealt.stays ∙ slot_at (λ i. is_none (lane i)) parts i within
            ∙ ap (λ (b : Bool). cond (is_none (cond b (Some (turns places i % workers)) None)) (slice_get parts i) None) has
        | inr past ↦ ap (λ (s : Slots). get_or s i None) dealt.stays ∙ slot_past (λ i. is_none (lane i)) parts i past
      ]

      cases : (place : Option ℕ) → get_or places k d ≡ place → IfSome place (λ index. get_or others index None ≡ None)
      cases None e = tt
      cases (Some i) e = none_at i (any_get (is_at i) places k d lt (ap (is_at i) e ∙ eq-eqb i i refl))

    pub lane_lengths : All (λ lane. length lane.slots.items ≡ length others) lanes
    lane_lengths k d lt = ap length (dealt.slots k d lt) ∙ length_slots (λ i. is_at k (lane i)) parts ∙ sym (ap length dealt.stays ∙ length_slots (λ i. is_none (lane i)) parts)
