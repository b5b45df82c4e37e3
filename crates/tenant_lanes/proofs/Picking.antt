-- Slots that a lane picks its own from, one after another.
use Rattle.std.proofs.Common.{◌≡◌, ℕ, ◌+◌, ◌%◌, ◌<◌, ◌≤◌, Bool, true, false, cond, List, [], ◌∷◌, ◌++◌, length, get_or, set, map, take, drop, Option, Some, None, refl, sym, ap, ◌∙◌, arith, add-one, inl, inr}
use Rattle.std.specs.List.{range_with_len}
use Rattle.std.proofs.lemmas.Bool.{cases_eq}
use Rattle.std.proofs.lemmas.List.{get_or-set_same, get_or-set_other, get_or_default, length-set, take_at}
use Rattle.std.proofs.lemmas.List.FromFn.{map-range_with_len_more, fill_by_all}
use Rattle.service_model.specs.TenantStates.{TenantState}
use Rattle.tenant_lanes.specs.Dealing.{is_at, has_requests, turns, lane_of}
use Rattle.tenant_lanes.specs.Runs.{Slots, left}

-- the first slots were looked at
pub record PickedTo (lane : ℕ) (lanes : List (Option ℕ)) (slots : Slots) (index : ℕ) (own after : Slots) : Type 0 where
  pub own_is : own ≡ map (λ i. cond (is_at lane (get_or lanes i None)) (get_or slots i None) None) (range_with_len 0 index)
  pub left : (i : ℕ) → i < index → get_or after i None ≡ cond (is_at lane (get_or lanes i None)) None (get_or slots i None)
  pub to_come : (i : ℕ) → index ≤ i → get_or after i None ≡ get_or slots i None
  pub same_length : length after ≡ length slots

module _ (lane : ℕ) (lanes : List (Option ℕ)) (slots : Slots) where
  pub none_picked : PickedTo lane lanes slots 0 [] slots
  none_picked = record { own_is = refl; left = λ i lt. absurd (omega arith); to_come = λ i le. refl; same_length = refl }

  module _ (index : ℕ) (own after : Slots) (h : PickedTo lane lanes slots index own after) (lt : index < length slots) where
    own_more : (b : Bool) (x : Option TenantState) (more : Slots) → is_at lane (get_or lanes index None) ≡ b → x ≡ cond b (get_or slots index None) None → more ≡ own ++ x ∷ []
        → more ≡ map (λ i. cond (is_at lane (get_or lanes i None)) (get_or slots i None) None) (range_with_len 0 (index + 1))
    own_more b x more at is e =
        let last : x ≡ cond (is_at lane (get_or lanes index None)) (get_or slots index None) None = is ∙ ap (λ (c : Bool). cond c (get_or slots index None) None) (sym at) in
        e ∙ (λ j. h.own_is j ++ last j ∷ []) ∙ sym (map-range_with_len_more (λ i. cond (is_at lane (get_or lanes i None)) (get_or slots i None) None) 0 index index (omega arith))

    pub is_picked : (slot : Option TenantState) (more next : Slots) → is_at lane (get_or lanes index None) ≡ true → slot ≡ get_or after index slot → more ≡ own ++ slot ∷ [] → next ≡ set after index None
        → PickedTo lane lanes slots (index + 1) more next
    is_picked slot more next at read e is =
        let within : index < length after = omega (arith, lt, h.same_length) in
        let here : slot ≡ get_or slots index None = read ∙ get_or_default after index slot None within ∙ h.to_come index (omega arith) in
        record {
          own_is = own_more true slot more at here e;
          left = λ i below. ap (λ (s : Slots). get_or s i None) is ∙ elim (cases_eq i index) [
            | inl same ↦
                ap (λ (j : ℕ). get_or (set after index None) j None) same ∙ get_or-set_same after index None None within
                ∙ sym (ap (λ (b : Bool). cond b None (get_or slots i None)) (ap (λ (j : ℕ). is_at lane (get_or lanes j None)) same ∙ at))
            | inr other ↦ get_or-set_other after index i None None other ∙ h.left i (omega (arith, below, other))
          ];
          to_come = λ i le. ap (λ (s : Slots). get_or s i None) is ∙ get_or-set_other after index i None None (omega (arith, le)) ∙ h.to_come i (omega (arith, le));
          same_length = ap length is ∙ length-set after index None ∙ h.same_length;
        }

    pub is_left : (more : Slots) → is_at lane (get_or lanes index None) ≡ false → more ≡ own ++ None ∷ [] → PickedTo lane lanes slots (index + 1) more after
    is_left more at e = record {
      own_is = own_more false None more at refl e;
      left = λ i below. elim (cases_eq i index) [
        | inl same ↦
            ap (λ (j : ℕ). get_or after j None) same ∙ h.to_come index (omega arith) ∙ ap (λ (j : ℕ). get_or slots j None) (sym same)
            ∙ sym (ap (λ (b : Bool). cond b None (get_or slots i None)) (ap (λ (j : ℕ). is_at lane (get_or lanes j None)) same ∙ at))
        | inr other ↦ h.left i (omega (arith, below, other))
      ];
      to_come = λ i le. h.to_come i (omega (arith, le));
      same_length = h.same_length;
    }

  pub all_left : (index : ℕ) (own after : Slots) → PickedTo lane lanes slots index own after → length slots ≤ index → after ≡ left lane lanes slots
  all_left index own after h past =
      fill_by_all (λ i. cond (is_at lane (get_or lanes i None)) None (get_or slots i None)) after (length slots) None h.same_length (λ i lt. h.left i (omega (arith, lt, past)))

  pub all_own : (index : ℕ) (own after : Slots) → PickedTo lane lanes slots index own after → index ≡ length slots
      → own ≡ map (λ i. cond (is_at lane (get_or lanes i None)) (get_or slots i None) None) (range_with_len 0 (length slots))
  all_own index own after h e = h.own_is ∙ ap (λ (n : ℕ). map (λ i. cond (is_at lane (get_or lanes i None)) (get_or slots i None) None) (range_with_len 0 n)) e

-- ---- the lanes' numbers

pub turns_more : (places : List (Option ℕ)) (index : ℕ) → turns places (index + 1) ≡ turns places index + cond (has_requests places index) 1 0
turns_more places index = rw add-one refl

pub numbers_more : (workers : ℕ) (places : List (Option ℕ)) (index : ℕ) (lanes more : List (Option ℕ)) (x : Option ℕ) → lanes ≡ map (lane_of workers places) (range_with_len 0 index) → more ≡ lanes ++ x ∷ []
    → x ≡ lane_of workers places index → more ≡ map (lane_of workers places) (range_with_len 0 (index + 1))
numbers_more workers places index lanes more x e is at =
    is ∙ (λ j. e j ++ at j ∷ []) ∙ sym (map-range_with_len_more (lane_of workers places) 0 index index (omega arith))

pub lane_taken : (workers : ℕ) (places : List (Option ℕ)) (index turn : ℕ) → has_requests places index ≡ true → turn ≡ turns places index → Some (turn % workers) ≡ lane_of workers places index
lane_taken workers places index turn has e =
    ap (λ (t : ℕ). Some (t % workers)) e ∙ sym (ap (λ (b : Bool). cond b (Some (turns places index % workers)) None) has)

pub no_lane : (workers : ℕ) (places : List (Option ℕ)) (index : ℕ) → has_requests places index ≡ false → None ≡ lane_of workers places index
no_lane workers places index has = sym (ap (λ (b : Bool). cond b (Some (turns places index % workers)) None) has)

-- a list that was written back whole
pub written_back : {X : Type 0} (ws xs : List X) (n : ℕ) → n ≡ length xs → length ws ≡ length xs → take n (ws ++ drop (length ws) xs) ≡ ws
written_back ws xs n e same = take_at ws (drop (length ws) xs) n (same ∙ sym e)
