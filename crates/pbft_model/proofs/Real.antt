-- What a correct replica records and keeps was signed by those whom it names.
use Rattle.std.proofs.Common.{◌≡◌, ℕ, ◌*◌, Bool, true, false, cond, List, [], ◌∷◌, map, Option, Some, None, refl, sym, ap, subst, inl, inr}
use Rattle.std.specs.Prelude.{nat_lt}
use Rattle.std.specs.List.{flat_map}
use Rattle.std.proofs.lemmas.Option.{same_Some}
use Rattle.pbft_model.specs.Words.{SigningState, Signed, Body, PrePrepare, Prepare, Checkpoint, Certificate, ViewChange, NewView, Part, part_of, as_message, messages_in}
use Rattle.pbft_codec.specs.declared.body.Body.TheVariants as bodies
use Rattle.pbft_codec.specs.declared.body.fetch.Fetch.TheVariants as fetches
use Rattle.seal.specs.Parts.{in_certificate, with_nested}
use Rattle.pbft_model.specs.Sequential.{Service}
use Rattle.pbft_model.specs.Setup.{Setup, primary, replicas, signer_after, is_least}
use Rattle.pbft_model.specs.Tables.{Key, Table, at, entries_in, keep, number_key, vote_key, checkpoint_key, change_key, add_if, is_above}
use Rattle.pbft_model.specs.Certificates.{Fields, of_pre_prepare, is_by}
use Rattle.pbft_model.specs.Validity.{is_valid, is_valid_new_view}
use Rattle.pbft_model.specs.Core.{Core, has_position, is_prepared, pre_prepare_at, prepared_at, certificate_of, is_matching, with_certificate, with_certificates, inside}
use Rattle.pbft_model.specs.Acts.{Act, Destination, Take, Timeout, Send, Relay, Enter, Rise, Execute, Install, after, said, recorded, entered, opened_by, with_list, left_for, left_if_above, add_pre_prepares, add_checkpoints, add_change, with_body}
use Rattle.pbft_model.specs.Rules.{Allowed, MaySay, MaySend, view_change_of, signed_list, new_view_of}
use Rattle.pbft_model.specs.Histories.{core_after, IsEarlier, IsIn, HasSigned, signed_in, listed_in}
use Rattle.pbft_model.specs.Families.{Family, IsCorrect, IsReal, IsUnforged}
use Rattle.pbft_model.proofs.Found.{found_add, found_keep, no_some, passed, in_map, in_append_left, in_append_right, in_flat, from_gathered}
use Rattle.pbft_model.proofs.Events.{before, signed_at, taken_at, history_at}
use Rattle.pbft_model.proofs.Entries.{from_entry, from_keep, from_append}

module _ (c : Setup) (family : Family) where
  -- the message, of this kind, is real
  abbrev pub RealAs : {B : Type 0} → (B → Body) → Signed B → Type 0
  RealAs kind m = IsReal c family (record { role = m.role; id = m.id; body = kind m.body })

  pub record RealCertificate (x : Certificate) : Type 0 where
    pub pre_prepare : RealAs bodies.PrePrepare x.pre_prepare
    pub prepares : (p : Signed Prepare) → IsIn p x.prepares → RealAs bodies.Prepare p

  pub record RealChange (m : Signed ViewChange) : Type 0 where
    pub own : RealAs bodies.ViewChange m
    pub certificates : (x : Certificate) → IsIn x m.body.certificates → RealCertificate x

  abbrev pub RealTable : {B : Type 0} → (B → Body) → Table (Signed B) → Type 0
  RealTable {B} kind t = (q : Key) (m : Signed B) → at t q ≡ Some m → RealAs kind m

  -- what is in a message is real
  abbrev pub RealMessage : Signed Body → Type 0
  RealMessage m = (p : Signed Body) → IsIn p (messages_in m) → IsReal c family (part_of p)

  abbrev pub RealCore : Core → Type 0
  RealCore s =
      RealTable bodies.PrePrepare s.pre_prepares × RealTable bodies.Prepare s.prepares × RealTable bodies.Commit s.commits
      × RealTable bodies.Checkpoint s.checkpoints
      × ((x : Certificate) → IsIn x (entries_in s.kept) → RealCertificate x)
      × ((q : Key) (m : Signed ViewChange) → at s.changes q ≡ Some m → RealChange m)
      × ((m : Signed Body) → s.taken ≡ Some m → RealMessage m)

  -- ---- parts of a message

  part_as : (m : Signed Body) (b : Body) → m.body ≡ b → IsReal c family (part_of m) → IsReal c family (record { role = m.role; id = m.id; body = b })
  part_as m b e h = subst (λ (x : Body). IsReal c family (record { role = m.role; id = m.id; body = x })) e h

  nested_of : (m : Signed Body) (b : Body) → m.body ≡ b → RealMessage m → RealMessage (record { role = m.role; id = m.id; body = b; sig = m.sig })
  nested_of m b e h = subst (λ (x : Body). RealMessage (record { role = m.role; id = m.id; body = x; sig = m.sig })) e h

  pub real_certificate : (x : Certificate) → ((p : Signed Body) → IsIn p (in_certificate x) → IsReal c family (part_of p)) → RealCertificate x
  real_certificate x h = record {
    pre_prepare = h (as_message bodies.PrePrepare x.pre_prepare) (inl refl);
    prepares = λ p is. h (as_message bodies.Prepare p) (inr (in_map (as_message bodies.Prepare) x.prepares p is));
  }

  pub real_change : (m : Signed ViewChange) → ((p : Signed Body) → IsIn p (with_nested m) → IsReal c family (part_of p)) → RealChange m
  real_change m h = record {
    own = h (as_message bodies.ViewChange m) (inl refl);
    certificates = λ x is. real_certificate x (λ p within. h p (inr (in_append_right p (map (as_message bodies.Checkpoint) m.body.checkpoints) (flat_map in_certificate m.body.certificates) (in_flat in_certificate m.body.certificates x p is within))));
  }

  real_checkpoints : (m : Signed ViewChange) → ((p : Signed Body) → IsIn p (with_nested m) → IsReal c family (part_of p)) → (p : Signed Checkpoint) → IsIn p m.body.checkpoints → RealAs bodies.Checkpoint p
  real_checkpoints m h p is = h (as_message bodies.Checkpoint p) (inr (in_append_left (as_message bodies.Checkpoint p) (map (as_message bodies.Checkpoint) m.body.checkpoints) (flat_map in_certificate m.body.certificates) (in_map (as_message bodies.Checkpoint) m.body.checkpoints p is)))

  pub changes_in : (n : NewView) (role : _) (id : ℕ) (sig : List ℕ) → RealMessage (record { role = role; id = id; body = bodies.NewView n; sig = sig }) → (m : Signed ViewChange) → IsIn m n.changes
      → (p : Signed Body) → IsIn p (with_nested m) → IsReal c family (part_of p)
  changes_in n role id sig h m is p within = h p (inr (in_append_left p (flat_map with_nested n.changes) (map (as_message bodies.PrePrepare) n.pre_prepares) (in_flat with_nested n.changes m p is within)))

  pub list_in : (n : NewView) (role : _) (id : ℕ) (sig : List ℕ) → RealMessage (record { role = role; id = id; body = bodies.NewView n; sig = sig }) → (p : Signed PrePrepare) → IsIn p n.pre_prepares → RealAs bodies.PrePrepare p
  list_in n role id sig h p is = h (as_message bodies.PrePrepare p) (inr (in_append_right (as_message bodies.PrePrepare p) (flat_map with_nested n.changes) (map (as_message bodies.PrePrepare) n.pre_prepares) (in_map (as_message bodies.PrePrepare) n.pre_prepares p is)))

  -- ---- tables

  added : {B : Type 0} (kind : B → Body) (b : Bool) (k : Key) (m : Signed B) (t : Table (Signed B)) → RealAs kind m → RealTable kind t → RealTable kind (add_if b k m t)
  added {B} kind b k m t real h q y e = elim (found_add b t k q m y e) [ inl w ↦ subst (λ (z : Signed B). RealAs kind z) w.1 real | inr old ↦ h q y old ]

  kept_in : {B : Type 0} (kind : B → Body) (test : Key → Bool) (t : Table (Signed B)) → RealTable kind t → RealTable kind (keep test t)
  kept_in kind test t h q m e = h q m ((found_keep test t q m e).1)

  checkpoints_added : (low : ℕ) (ms : List (Signed Checkpoint)) (t : Table (Signed Checkpoint)) → ((p : Signed Checkpoint) → IsIn p ms → RealAs bodies.Checkpoint p) → RealTable bodies.Checkpoint t
      → RealTable bodies.Checkpoint (add_checkpoints low ms t)
  checkpoints_added low [] t real h = h
  checkpoints_added low (m ∷ ms) t real h = checkpoints_added low ms _ (λ p is. real p (inr is)) (added bodies.Checkpoint (nat_lt low m.body.number.0) (checkpoint_key m.body.number.0 m.id) m t (real m (inl refl)) h)

  list_added : (s : Core) (ms : List (Signed PrePrepare)) (t : Table (Signed PrePrepare)) → ((p : Signed PrePrepare) → IsIn p ms → RealAs bodies.PrePrepare p) → RealTable bodies.PrePrepare t
      → RealTable bodies.PrePrepare (add_pre_prepares c s ms t)
  list_added s [] t real h = h
  list_added s (m ∷ ms) t real h = list_added s ms _ (λ p is. real p (inr is)) (added bodies.PrePrepare _ (vote_key m.body.number.0 m.body.view.0 m.id) m t (real m (inl refl)) h)

  only_if : (b : Bool) (ms : List (Signed Checkpoint)) → ((p : Signed Checkpoint) → IsIn p ms → RealAs bodies.Checkpoint p) → (p : Signed Checkpoint) → IsIn p (cond b ms []) → RealAs bodies.Checkpoint p
  only_if true ms h p is = h p is
  only_if false ms h p is = absurd is

  from_flat : (ms : List (Signed ViewChange)) (p : Signed Checkpoint) → IsIn p (flat_map (λ v. v.body.checkpoints) ms) → (m : Signed ViewChange) × IsIn m ms × IsIn p m.body.checkpoints
  from_flat [] p h = absurd h
  from_flat (m ∷ ms) p h = elim (from_append p m.body.checkpoints (flat_map (λ v. v.body.checkpoints) ms) h) [
    | inl here ↦ (m, inl refl, here)
    | inr later ↦ let w = from_flat ms p later in (w.0, inr w.1, w.2)
  ]

  -- ---- certificates kept as a view is left

  pub real_made : (s : Core) → RealCore s → (n : ℕ) (m : Signed PrePrepare) → prepared_at c s n ≡ Some m → RealCertificate (certificate_of c s m)
  real_made s h n m e =
      let found = (passed (λ p. is_prepared c s (of_pre_prepare p.body)) (pre_prepare_at c s s.view n) m e).0 in
      record {
        pre_prepare = h.0 (vote_key n s.view (primary c.config s.view)) m ((passed (is_by (primary c.config s.view) (has_position s.view n)) (at s.pre_prepares (vote_key n s.view (primary c.config s.view))) m found).0);
        prepares = λ p is.
            let w = from_gathered (is_least (2 * c.config.f) (is_matching c s (of_pre_prepare m.body))) (λ i. at s.prepares (vote_key m.body.number.0 m.body.view.0 i)) (replicas c.config) p is in
            h.1 (vote_key m.body.number.0 m.body.view.0 w.0) p w.2;
      }

  real_with : (s : Core) → RealCore s → (ns : List ℕ) (x : Certificate) → IsIn x (entries_in (with_certificates c s ns s.kept)) → RealCertificate x
  real_with s h [] x is = h.4 x is
  real_with s h (n ∷ ns) x is = cases (prepared_at c s n) refl is (real_with s h ns x) where
    cases : (o : Option (Signed PrePrepare)) → prepared_at c s n ≡ o → IsIn x (entries_in (with_certificate c s n o (with_certificates c s ns s.kept)))
        → (IsIn x (entries_in (with_certificates c s ns s.kept)) → RealCertificate x) → RealCertificate x
    cases None e is rest = rest is
    cases (Some m) e is rest = elim (from_entry (with_certificates c s ns s.kept) (number_key n) (certificate_of c s m) x is) [
      | inl same ↦ subst (λ (y : Certificate). RealCertificate y) (sym same) (real_made s h n m e)
      | inr old ↦ rest old
    ]

  -- ---- what each act leaves

  real_left : (s : Core) (view : ℕ) → RealCore s → RealCore (left_for c s view)
  real_left s view h =
      (h.0, h.1, h.2, h.3, (λ x is. real_with s h (inside c s) x is), (λ q m e. h.5 q m ((found_keep _ s.changes q m e).1)), h.6)

  real_left_if : (s : Core) (view : ℕ) → RealCore s → RealCore (left_if_above c s view)
  real_left_if s view h = cases (nat_lt s.view view) where
    cases : (b : Bool) → RealCore (cond b (left_for c s view) s)
    cases true = real_left s view h
    cases false = h

  pub real_entered : (s : Core) (n : NewView) → RealCore s → ((p : Signed PrePrepare) → IsIn p n.pre_prepares → RealAs bodies.PrePrepare p) → RealCore (entered c s n)
  real_entered s n h listed = opened (left_if_above c s n.view.0) (real_left_if s n.view.0 h) where
    opened : (t : Core) → RealCore t → RealCore (with_list c (opened_by t n) n)
    opened t k = (
      list_added (opened_by t n) n.pre_prepares (opened_by t n).pre_prepares listed (kept_in bodies.PrePrepare _ t.pre_prepares k.0),
      kept_in bodies.Prepare _ t.prepares k.1,
      kept_in bodies.Commit _ t.commits k.2,
      k.3,
      k.4,
      k.5,
      k.6,
    )

  real_said : (s : Core) (m : Signed Body) (b : Body) → m.body ≡ b → IsReal c family (part_of m)
      → ((n : NewView) → b ≡ bodies.NewView n → (p : Signed PrePrepare) → IsIn p n.pre_prepares → RealAs bodies.PrePrepare p)
      → ((v : ViewChange) → b ≡ bodies.ViewChange v → v ≡ view_change_of c s v.view.0) → RealCore s → RealCore (said c s m b)
  real_said s m (bodies.Request b) e real listed complete h = h
  real_said s m (bodies.PrePrepare b) e real listed complete h =
      (added bodies.PrePrepare _ (vote_key b.number.0 b.view.0 m.id) (with_body m b) s.pre_prepares (part_as m (bodies.PrePrepare b) e real) h.0, h.1, h.2, h.3, h.4, h.5, h.6)
  real_said s m (bodies.Prepare b) e real listed complete h =
      (h.0, added bodies.Prepare _ (vote_key b.number.0 b.view.0 m.id) (with_body m b) s.prepares (part_as m (bodies.Prepare b) e real) h.1, h.2, h.3, h.4, h.5, h.6)
  real_said s m (bodies.Commit b) e real listed complete h =
      (h.0, h.1, added bodies.Commit _ (vote_key b.number.0 b.view.0 m.id) (with_body m b) s.commits (part_as m (bodies.Commit b) e real) h.2, h.3, h.4, h.5, h.6)
  real_said s m (bodies.Reply b) e real listed complete h = h
  real_said s m (bodies.Checkpoint b) e real listed complete h =
      (h.0, h.1, h.2, added bodies.Checkpoint _ (checkpoint_key b.number.0 m.id) (with_body m b) s.checkpoints (part_as m (bodies.Checkpoint b) e real) h.3, h.4, h.5, h.6)
  real_said s m (bodies.ViewChange b) e real listed complete h =
      let k = real_left s b.view.0 h in
      let own : RealChange (with_body m b) = record {
        own = part_as m (bodies.ViewChange b) e real;
        certificates = λ x is. real_with s h (inside c s) x (subst (λ (xs : List Certificate). IsIn x xs) (ap (λ v. v.certificates) (complete b refl)) is);
      } in
      (k.0, k.1, k.2, k.3, k.4, (λ q y is. change_added own (left_for c s b.view.0).changes k.5 q y is), k.6) where
        change_added : RealChange (with_body m b) → (t : Table (Signed ViewChange)) → ((q : Key) (y : Signed ViewChange) → at t q ≡ Some y → RealChange y) → (q : Key) (y : Signed ViewChange)
            → at (add_change (left_for c s b.view.0) true (with_body m b) t) q ≡ Some y → RealChange y
        change_added own t old q y is = elim (found_add _ t (change_key b.view.0 m.id) q (with_body m b) y is) [
          | inl w ↦ subst (λ (z : Signed ViewChange). RealChange z) w.1 own
          | inr was ↦ old q y was
        ]
  real_said s m (bodies.NewView b) e real listed complete h = real_entered s b h (listed b refl)
  real_said s m (bodies.Fetch (fetches.Request d)) e real listed complete h = h
  real_said s m (bodies.Fetch (fetches.State n)) e real listed complete h = h
  real_said s m (bodies.Snapshot b) e real listed complete h = h

  real_recorded : (s : Core) (m : Signed Body) (b : Body) (reading : Option Service) → m.body ≡ b → RealMessage m → RealCore s
      → RealCore (record (recorded c s m b) { taken = Some m; reading = reading; is_fresh = true; timed_out = false })
  real_recorded s m (bodies.Request b) r e real h = (h.0, h.1, h.2, h.3, h.4, h.5, λ p is. subst (λ (x : Signed Body). RealMessage x) (same_Some _ _ is) real)
  real_recorded s m (bodies.PrePrepare b) r e real h = (
    added bodies.PrePrepare _ (vote_key b.number.0 b.view.0 m.id) (with_body m b) s.pre_prepares (part_as m (bodies.PrePrepare b) e (real m (inl refl))) h.0,
    h.1,
    h.2,
    h.3,
    h.4,
    h.5,
    λ p is. subst (λ (x : Signed Body). RealMessage x) (same_Some _ _ is) real,
  )
  real_recorded s m (bodies.Prepare b) r e real h = (
    h.0,
    added bodies.Prepare _ (vote_key b.number.0 b.view.0 m.id) (with_body m b) s.prepares (part_as m (bodies.Prepare b) e (real m (inl refl))) h.1,
    h.2,
    h.3,
    h.4,
    h.5,
    λ p is. subst (λ (x : Signed Body). RealMessage x) (same_Some _ _ is) real,
  )
  real_recorded s m (bodies.Commit b) r e real h = (
    h.0,
    h.1,
    added bodies.Commit _ (vote_key b.number.0 b.view.0 m.id) (with_body m b) s.commits (part_as m (bodies.Commit b) e (real m (inl refl))) h.2,
    h.3,
    h.4,
    h.5,
    λ p is. subst (λ (x : Signed Body). RealMessage x) (same_Some _ _ is) real,
  )
  real_recorded s m (bodies.Reply b) r e real h = (h.0, h.1, h.2, h.3, h.4, h.5, λ p is. subst (λ (x : Signed Body). RealMessage x) (same_Some _ _ is) real)
  real_recorded s m (bodies.Checkpoint b) r e real h = (
    h.0,
    h.1,
    h.2,
    added bodies.Checkpoint _ (checkpoint_key b.number.0 m.id) (with_body m b) s.checkpoints (part_as m (bodies.Checkpoint b) e (real m (inl refl))) h.3,
    h.4,
    h.5,
    λ p is. subst (λ (x : Signed Body). RealMessage x) (same_Some _ _ is) real,
  )
  real_recorded s m (bodies.ViewChange b) r e real h =
      let within : (p : Signed Body) → IsIn p (with_nested (with_body m b)) → IsReal c family (part_of p) = nested_of m (bodies.ViewChange b) e real in
      let change : RealChange (with_body m b) = real_change (with_body m b) within in (
        h.0,
        h.1,
        h.2,
        checkpoints_added s.low (cond (is_valid c b) b.checkpoints []) s.checkpoints (only_if (is_valid c b) b.checkpoints (λ p is. real_checkpoints (with_body m b) within p is)) h.3,
        h.4,
        (λ q y is. elim (found_add _ s.changes (change_key b.view.0 m.id) q (with_body m b) y is) [
          | inl w ↦ subst (λ (z : Signed ViewChange). RealChange z) w.1 change
          | inr was ↦ h.5 q y was
        ]),
        λ p is. subst (λ (x : Signed Body). RealMessage x) (same_Some _ _ is) real,
      )
  real_recorded s m (bodies.NewView b) r e real h =
      let within = nested_of m (bodies.NewView b) e real in (
        h.0,
        h.1,
        h.2,
        checkpoints_added s.low (cond (is_valid_new_view c b) (flat_map (λ v. v.body.checkpoints) b.changes) []) s.checkpoints
            (only_if (is_valid_new_view c b) (flat_map (λ v. v.body.checkpoints) b.changes) (λ p is.
            let w = from_flat b.changes p is in real_checkpoints w.0 (changes_in b m.role m.id m.sig within w.0 w.1) p w.2)) h.3,
        h.4,
        h.5,
        λ p is. subst (λ (x : Signed Body). RealMessage x) (same_Some _ _ is) real,
      )
  real_recorded s m (bodies.Fetch b) r e real h = (h.0, h.1, h.2, h.3, h.4, h.5, λ p is. subst (λ (x : Signed Body). RealMessage x) (same_Some _ _ is) real)
  real_recorded s m (bodies.Snapshot b) r e real h = (h.0, h.1, h.2, h.3, h.4, h.5, λ p is. subst (λ (x : Signed Body). RealMessage x) (same_Some _ _ is) real)

  -- ---- at each point of a correct replica's history

  -- a part that was signed in a message that was sent, by its signer
  pub own_real : (me : ℕ) (to : Destination) (m : Signed Body) (early : List Act) → IsEarlier (Send to m ∷ early) (family.acts me) → (p : Part) → IsIn p (signed_in m) → p.id ≡ me → IsReal c family p
  own_real me to m early is p within same role correct =
      subst (λ (j : ℕ). HasSigned p (family.acts j)) (sym same) (signed_at p (Send to m) early (family.acts me) is within)

  own_id : (me : ℕ) (s : Core) (m : Signed Body) → MaySend c me s m → m.id ≡ me
  own_id me s m ok = ap (λ (x : Signed Body). x.id) ok.signed

  pub listed_by : (me : ℕ) (xs : List Fields) (signer : SigningState) (p : Signed PrePrepare) → IsIn p (signed_list signer me xs) → p.id ≡ me
  listed_by me [] signer p h = absurd h
  listed_by me (x ∷ xs) signer p (inl same) = ap (λ (q : Signed PrePrepare). q.id) same
  listed_by me (x ∷ xs) signer p (inr later) = listed_by me xs (signer_after signer 1) p later

  opens : (me : ℕ) (s : Core) (b : Body) (n : NewView) → MaySay c me s b → b ≡ bodies.NewView n → n ≡ new_view_of c me s
  opens me s b n says e = (subst (λ (x : Body). MaySay c me s x) e says).is

  says_view_change : (me : ℕ) (s : Core) (b : Body) (v : ViewChange) → MaySay c me s b → b ≡ bodies.ViewChange v → v ≡ view_change_of c s v.view.0
  says_view_change me s b v says e = (subst (λ (x : Body). MaySay c me s x) e says).reports_all

  real_sent : (me : ℕ) (to : Destination) (m : Signed Body) (early : List Act) (s : Core) → IsEarlier (Send to m ∷ early) (family.acts me) → MaySend c me s m → RealCore s → RealCore (after c s (Send to m))
  real_sent me to m early s is ok h =
      real_said s m m.body refl (own_real me to m early is (part_of m) (inl refl) (own_id me s m ok))
      (λ n e p within. own_real me to m early is (part_of (as_message bodies.PrePrepare p))
      (inr (in_map (λ p. part_of (as_message bodies.PrePrepare p)) (listed_in m.body) p (subst (λ (b : Body). IsIn p (listed_in b)) (sym e) within)))
      (listed_by me _ s.signer p (subst (λ (ps : List (Signed PrePrepare)). IsIn p ps) (ap (λ v. v.pre_prepares) (opens me s m.body n ok.says e)) within)))
      (λ v e. says_view_change me s m.body v ok.says e) h

  real_discarded : (s : Core) (n : ℕ) → RealCore s → RealTable bodies.PrePrepare (keep (is_above n) s.pre_prepares) × RealTable bodies.Prepare (keep (is_above n) s.prepares) × RealTable bodies.Commit (keep (is_above n) s.commits)
      × RealTable bodies.Checkpoint (keep (is_above n) s.checkpoints)
      × ((x : Certificate) → IsIn x (entries_in (keep (is_above n) s.kept)) → RealCertificate x)
      × ((q : Key) (m : Signed ViewChange) → at s.changes q ≡ Some m → RealChange m)
      × ((m : Signed Body) → s.taken ≡ Some m → RealMessage m)
  real_discarded s n h = (
    kept_in bodies.PrePrepare _ s.pre_prepares h.0,
    kept_in bodies.Prepare _ s.prepares h.1,
    kept_in bodies.Commit _ s.commits h.2,
    kept_in bodies.Checkpoint _ s.checkpoints h.3,
    (λ x is. h.4 x (from_keep (is_above n) s.kept x is)),
    h.5,
    h.6,
  )

  real_after : (i : ℕ) → IsCorrect c family.faulty i → IsUnforged c family → (a : Act) (early : List Act) (s : Core) → IsEarlier (a ∷ early) (family.acts i) → Allowed c i s a → RealCore s → RealCore (after c s a)
  real_after i correct u (Take m r) early s is ok h = real_recorded s m m.body r refl (λ p within. u.real i correct m p (taken_at m r early (family.acts i) is) within) h
  real_after i correct u Timeout early s is ok h = (h.0, h.1, h.2, h.3, h.4, h.5, λ m e. no_some m e)
  real_after i correct u (Send to m) early s is ok h = real_sent i to m early s is ok h
  real_after i correct u (Relay to m) early s is ok h = h
  real_after i correct u (Enter m) early s is ok h =
      real_entered s m.body h (λ p within. list_in m.body m.role m.id m.sig (h.6 (as_message bodies.NewView m) ok.taken) p within)
  real_after i correct u (Rise n d) early s is ok h = real_discarded s n h
  real_after i correct u (Execute n d t o) early s is ok h = h
  real_after i correct u (Install n b t) early s is ok h = real_discarded s n h

  pub real_core : (i : ℕ) → IsCorrect c family.faulty i → IsUnforged c family → (acts : List Act) → IsEarlier acts (family.acts i) → RealCore (core_after c (family.signer i) acts)
  real_core i correct u [] is = ((λ q m e. no_some m e), (λ q m e. no_some m e), (λ q m e. no_some m e), (λ q m e. no_some m e), (λ x none. absurd none), (λ q m e. no_some m e), (λ m e. no_some m e))
  real_core i correct u (a ∷ acts) is =
      real_after i correct u a acts (core_after c (family.signer i) acts) is
      ((history_at c i (family.signer i) (a ∷ acts) (family.acts i) is (u.histories i correct)).1)
      (real_core i correct u acts (before a acts (family.acts i) is))
