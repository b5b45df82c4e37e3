-- A search, a seed at a time.
use Rattle.std.proofs.Common.{◌≡◌, ◌⊎◌, Bool, true, false, inl, inr, ℕ, suc, ◌+◌, ◌-◌, ◌<◌, ◌≤◌, List, [], ◌∷◌, ◌++◌, length, get_or, map, take, Option, Ok, Err, refl, sym, ap, subst, ◌∙◌, arith}
use Rattle.std.specs.Prelude.{◌≢◌, Contains, Result}
use Rattle.std.specs.List.{concat}
use Rattle.std.specs.Io.KnownBytes.{Appends}
use Rattle.std.proofs.Math.Seq.{take-append-add}
use Rattle.std.proofs.lemmas.Bool.{cases_lt}
use Rattle.std.proofs.lemmas.List.{append-nil, append_assoc, length-append, map-append, take_all, take_more}
use Rattle.std.proofs.lemmas.List.Folds.{concat-append}
use Rattle.conflicts.specs.declared.blame.Blame.{Blame}
use Rattle.script_text.specs.Orders.{ordered}
use Rattle.script_text.specs.declared.script.Script.{Script}
use Rattle.world_script.specs.Writing.{AppendsFront}
use Rattle.world_script.specs.declared.fault.RunFault.{RunFault}
use Rattle.world_script.specs.declared.fault.RunFault.TheVariants.{TooManyDeliveries, Write, Memory}
use Rattle.world_script.proofs.Written.{both, front_then, nothing}
use Rattle.world_trace.specs.Exploring.{IsOutcome}
use Rattle.world_trace.specs.Finding.{Stands, TellsBlame, TellsChoices, TellsEnd, TellsLines, TellsOne, told, told_line}
use Rattle.world_trace.specs.Searches.{AreBlameLines, AreChoices, AreChosen, AreNews, Finds, FindsNothing, GoesOn, Searches, explored_line, outcome_line, seed_line}
use Rattle.world_trace.specs.declared.explore.Outcome.{Outcome}
use Rattle.world_trace.specs.declared.explore.Outcome.TheVariants as outcomes
use Rattle.world_trace.specs.declared.findings.Search.{Search}
use Rattle.world_trace.specs.declared.findings.Searched.{Searched}
use Rattle.world_trace.specs.declared.findings.Searched.TheVariants.{Agreed, Refused}

-- ---- news

moved : (said news more : List Blame) (h : Blame) → news ≡ h ∷ more → said ++ news ≡ (said ++ h ∷ []) ++ more
moved said news more h is = ap (λ (xs : List Blame). said ++ xs) is ∙ sym (append_assoc said (h ∷ []) more)

bare : (said news : List Blame) → news ≡ [] → said ++ news ≡ said
bare said news none = ap (λ (xs : List Blame). said ++ xs) none ∙ append-nil said

-- One more is heard, who was blamed so before.
heard_again : (said heard news : List Blame) (b : Blame) → AreNews said heard news → Contains (said ++ news) b → AreNews said (heard ++ b ∷ []) news
heard_again said [] news b w has = inl (subst (λ (xs : List Blame). Contains xs b) (bare said news w) has, w)
heard_again said (h ∷ hs) news b (inl e) has = inl (e.0, heard_again said hs news b e.1 has)
heard_again said (h ∷ hs) news b (inr e) has =
    inr (e.0, (e.1.0, e.1.1, heard_again (said ++ h ∷ []) hs e.1.0 b e.1.2 (subst (λ (xs : List Blame). Contains xs b) (moved said news e.1.0 h e.1.1) has)))

-- One more is heard, who wasn't.
heard_first : (said heard news : List Blame) (b : Blame) → AreNews said heard news → (Contains (said ++ news) b → ⊥) → AreNews said (heard ++ b ∷ []) (news ++ b ∷ [])
heard_first said [] news b w lacks =
    inr (λ has. lacks (subst (λ (xs : List Blame). Contains xs b) (sym (bare said news w)) has), ([], ap (λ (xs : List Blame). xs ++ b ∷ []) w, refl))
heard_first said (h ∷ hs) news b (inl e) lacks = inl (e.0, heard_first said hs news b e.1 lacks)
heard_first said (h ∷ hs) news b (inr e) lacks =
    inr (e.0, (e.1.0 ++ b ∷ [], ap (λ (xs : List Blame). xs ++ b ∷ []) e.1.1, heard_first (said ++ h ∷ []) hs e.1.0 b e.1.2 (λ has. lacks (subst (λ (xs : List Blame). Contains xs b) (sym (moved said news e.1.0 h e.1.1)) has))))

-- the lines with one more
told_more : (seed : ℕ) (news : List Blame) (b : Blame) → told seed (news ++ b ∷ []) ≡ told seed news ++ told_line seed b
told_more seed news b =
    ap concat (map-append (told_line seed) news (b ∷ [])) ∙ concat-append (map (told_line seed) news) (told_line seed b ∷ [])
    ∙ ap (λ (bs : List ℕ). told seed news ++ bs) (append-nil (told_line seed b))

same_written : (old new : Option (List ℕ)) (s t : List ℕ) → s ≡ t → Appends old new s → Appends old new t
same_written old new s t same w = subst (Appends old new) same w

module _ (seed i : ℕ) (heard : List Blame) (d b : Blame) (said mid : List Blame) (old between : Option (List ℕ)) (below : i < length heard) (read : b ≡ get_or heard i d) (told_so : TellsBlame seed (take i heard) said mid old between (Ok tt)) where
  grown : take i heard ++ b ∷ [] ≡ take (i + 1) heard
  grown = ap (λ (x : Blame). take i heard ++ x ∷ []) read ∙ sym (take_more heard i d below)

  pub one_told : (later : List Blame) (new : Option (List ℕ)) → TellsOne seed b mid later between new (Ok tt) → TellsBlame seed (take (i + 1) heard) said later old new (Ok tt)
  one_told later new (inl e) = (
    told_so.0,
    subst (λ (hs : List Blame). AreNews said hs told_so.0) grown (heard_again said (take i heard) told_so.0 b told_so.1 (subst (λ (xs : List Blame). Contains xs b) told_so.2 e.0)),
    e.1 ∙ told_so.2,
    subst (λ (o : Option (List ℕ)). Appends old o (told seed told_so.0)) (sym e.2) told_so.3,
  )
  one_told later new (inr e) = (
    told_so.0 ++ b ∷ [],
    subst (λ (hs : List Blame). AreNews said hs (told_so.0 ++ b ∷ [])) grown
        (heard_first said (take i heard) told_so.0 b told_so.1 (λ has. e.0 (subst (λ (xs : List Blame). Contains xs b) (sym told_so.2) has))),
    e.1 ∙ ap (λ (xs : List Blame). xs ++ b ∷ []) told_so.2 ∙ append_assoc said told_so.0 (b ∷ []),
    same_written old new (told seed told_so.0 ++ told_line seed b) (told seed (told_so.0 ++ b ∷ [])) (sym (told_more seed told_so.0 b)) (both old between new (told seed told_so.0) (told_line seed b) told_so.3 e.2),
  )

  pub one_fails : (fault : RunFault) (later last : List Blame) (new : Option (List ℕ)) → TellsOne seed b mid later between new (Err fault) → TellsBlame seed heard said last old new (Err fault)
  one_fails Memory later last new e =
      (take i heard, told_so.0, told_so.1, subst (λ (o : Option (List ℕ)). Appends old o (told seed told_so.0)) (sym e) told_so.3)
  one_fails Write later last new e = (
    take i heard ++ b ∷ [],
    told_so.0 ++ b ∷ [],
    heard_first said (take i heard) told_so.0 b told_so.1 (λ has. e.0 (subst (λ (xs : List Blame). Contains xs b) (sym told_so.2) has)),
    subst (AppendsFront old new) (sym (told_more seed told_so.0 b)) (front_then old between new (told seed told_so.0) (told_line seed b) told_so.3 e.1),
  )
  one_fails TooManyDeliveries later last new e = absurd e

pub all_told : (seed i : ℕ) (heard said later : List Blame) (old new : Option (List ℕ)) → length heard ≤ i → TellsBlame seed (take i heard) said later old new (Ok tt) → TellsBlame seed heard said later old new (Ok tt)
all_told seed i heard said later old new all e = subst (λ (hs : List Blame). TellsBlame seed hs said later old new (Ok tt)) (take_all i heard all) e

pub none_told : (seed : ℕ) (heard said : List Blame) (old : Option (List ℕ)) → TellsBlame seed (take 0 heard) said said old old (Ok tt)
none_told seed heard said old = ([], refl, sym (append-nil said), nothing old)

-- ---- seeds

-- One more seed is run.
lines_more : (seed : ℕ) (said : List Blame) (heard : List (List Blame)) (lines : List (List ℕ)) (mid bs news : List Blame) → AreBlameLines seed said heard lines mid → AreNews mid bs news
    → AreBlameLines seed said (heard ++ bs ∷ []) (lines ++ map (told_line (seed + length heard)) news) (mid ++ news)
lines_more seed said [] lines mid bs news w v = (
  news,
  [],
  subst (λ (s : List Blame). AreNews s bs news) w.1 v,
  (refl, ap (λ (s : List Blame). s ++ news) w.1),
  ap (λ (ls : List (List ℕ)). ls ++ map (told_line (seed + 0)) news) w.0 ∙ ap (λ (n : ℕ). map (told_line n) news) (none seed) ∙ sym (append-nil (map (told_line seed) news)),
) where
  none : (n : ℕ) → n + 0 ≡ n
  none n = omega arith
lines_more seed said (h ∷ hs) lines mid bs news w v = (
  w.0,
  w.1 ++ map (told_line (seed + suc (length hs))) news,
  w.2,
  subst (λ (n : ℕ). AreBlameLines (seed + 1) (said ++ w.0) (hs ++ bs ∷ []) (w.1 ++ map (told_line n) news) (mid ++ news)) (counted seed (length hs))
      (lines_more (seed + 1) (said ++ w.0) hs w.1 mid bs news w.3 v),
  ap (λ (ls : List (List ℕ)). ls ++ map (told_line (seed + suc (length hs))) news) w.4 ∙ append_assoc (map (told_line seed) w.0) w.1 (map (told_line (seed + suc (length hs))) news),
) where
  counted : (n m : ℕ) → (n + 1) + m ≡ n + suc m
  counted n m = omega arith

pub at_start : (script : Script) (search : Search) (old : Option (List ℕ)) → Stands script search search.seeds.first [] old old
at_start script search old = record {
  heard = [];
  counted = none search.seeds.first;
  agree = λ seed from below. absurd (never search.seeds.first seed from below);
  lines = [];
  lines_are = (refl, refl);
  written = nothing old;
} where
  none : (n : ℕ) → n + 0 ≡ n
  none n = omega arith

  never : (n m : ℕ) → n ≤ m → m < n → ⊥
  never n m a b = omega (arith, a, b)

whole : (lines : List (List ℕ)) → concat lines ≡ concat (take (length lines) lines)
whole lines = ap concat (sym (take_all (length lines) lines (same (length lines)))) where
  same : (n : ℕ) → n ≤ n
  same n = omega arith

one_line : (lines : List (List ℕ)) (line : List ℕ) → concat lines ++ line ≡ concat (lines ++ line ∷ [])
one_line lines line = sym (concat-append lines (line ∷ []) ∙ ap (λ (bs : List ℕ). concat lines ++ bs) (append-nil line))

module _ (script : Script) (search : Search) (next : ℕ) (said : List Blame) (start a : Option (List ℕ)) (st : Stands script search next said start a) where
  pub from_start : search.seeds.first ≤ next
  from_start = begins search.seeds.first (length st.heard) next st.counted where
    begins : (f m n : ℕ) → f + m ≡ n → f ≤ n
    begins f m n c = omega (arith, c)

  -- Memory runs out ahead of the next seed.
  pub stands_early : next ≤ search.seeds.first + (search.seeds.end - search.seeds.first) → Searches script search start a (Err Memory)
  stands_early within = (
    st.lines,
    inl (record {
      heard = st.heard;
      within = counts search.seeds.first search.seeds.end next (length st.heard) st.counted within;
      before = λ seed from below. st.agree seed from (sooner search.seeds.first next (length st.heard) seed st.counted below);
      said = said;
      lines_are = st.lines_are;
    }),
    (length st.lines, same_written start a (concat st.lines) (concat (take (length st.lines) st.lines)) (whole st.lines) st.written),
  ) where
    counts : (f e n m : ℕ) → f + m ≡ n → n ≤ f + (e - f) → m ≤ e - f
    counts f e n m c w = omega (arith, c, w)

    sooner : (f n m s : ℕ) → f + m ≡ n → s < f + m - 1 → s < n
    sooner f n m s c b = omega (arith, c, b)

  -- All seeds are run.
  finds_nothing : next ≡ search.seeds.first + (search.seeds.end - search.seeds.first) → FindsNothing script search (st.lines ++ explored_line (search.seeds.end - search.seeds.first) ∷ [])
  finds_nothing all = record {
    agree = λ seed from below. st.agree seed from (sooner search.seeds.first search.seeds.end next seed all from below);
    heard = st.heard;
    each = counts search.seeds.first search.seeds.end next (length st.heard) st.counted all;
    blames = st.lines;
    said = said;
    blames_are = st.lines_are;
    lines_are = refl;
  } where
    sooner : (f e n s : ℕ) → n ≡ f + (e - f) → f ≤ s → s < e → s < n
    sooner f e n s c x b = omega (arith, c, x, b)

    counts : (f e n m : ℕ) → f + m ≡ n → n ≡ f + (e - f) → m ≡ e - f
    counts f e n m c w = omega (arith, c, w)

  pub stands_at_end : next ≡ search.seeds.first + (search.seeds.end - search.seeds.first) → (b : Option (List ℕ)) (r : Result Searched RunFault) → TellsEnd (search.seeds.end - search.seeds.first) a b r → Searches script search start b r
  stands_at_end all b (Ok Agreed) e = (
    st.lines ++ explored_line (search.seeds.end - search.seeds.first) ∷ [],
    finds_nothing all,
    same_written start b (concat st.lines ++ explored_line (search.seeds.end - search.seeds.first)) _ (one_line st.lines (explored_line (search.seeds.end - search.seeds.first)))
        (both start a b (concat st.lines) (explored_line (search.seeds.end - search.seeds.first)) st.written e),
  )
  stands_at_end all b (Ok Refused) e = absurd e
  stands_at_end all b (Err Memory) e = subst (λ (o : Option (List ℕ)). Searches script search start o (Err Memory)) (sym e) (stands_early (same next _ all)) where
    same : (n m : ℕ) → n ≡ m → n ≤ m
    same n m is = omega (arith, is)
  stands_at_end all b (Err Write) e = (
    st.lines ++ explored_line (search.seeds.end - search.seeds.first) ∷ [],
    inr (inl (finds_nothing all)),
    subst (AppendsFront start b) (one_line st.lines (explored_line (search.seeds.end - search.seeds.first)))
        (front_then start a b (concat st.lines) (explored_line (search.seeds.end - search.seeds.first)) st.written e),
  )
  stands_at_end all b (Err TooManyDeliveries) e = absurd e

  -- ---- what is told of the next seed

  module _ (below : next < search.seeds.end) where
    module _ (part news : List Blame) (are : AreNews said part news) where
      lines : List (List ℕ)
      lines = st.lines ++ map (told_line next) news

      lines_are : AreBlameLines search.seeds.first [] (st.heard ++ part ∷ []) lines (said ++ news)
      unfolding lines
      lines_are =
          subst (λ (n : ℕ). AreBlameLines search.seeds.first [] (st.heard ++ part ∷ []) (st.lines ++ map (told_line n) news) (said ++ news)) st.counted
          (lines_more search.seeds.first [] st.heard st.lines said part news st.lines_are are)

      joined : concat st.lines ++ told next news ≡ concat lines
      unfolding lines
      joined = sym (concat-append st.lines (map (told_line next) news))

      counted : search.seeds.first + length (st.heard ++ part ∷ []) ≡ next + 1
      counted = one_more search.seeds.first (length st.heard) next (length (st.heard ++ part ∷ [])) st.counted (length-append st.heard (part ∷ [])) where
        one_more : (f m n l : ℕ) → f + m ≡ n → l ≡ m + 1 → f + l ≡ n + 1
        one_more f m n l c d = omega (arith, c, d)

      goes_on : GoesOn script search lines
      goes_on = record {
        heard = st.heard ++ part ∷ [];
        within = counts search.seeds.first search.seeds.end next (length (st.heard ++ part ∷ [])) counted below from_start;
        before = λ seed x b. st.agree seed x (sooner search.seeds.first next (length (st.heard ++ part ∷ [])) seed counted b);
        said = said ++ news;
        lines_are = lines_are;
      } where
        counts : (f e n m : ℕ) → f + m ≡ n + 1 → n < e → f ≤ n → m ≤ e - f
        counts f e n m c b x = omega (arith, c, b, x)

        sooner : (f n m s : ℕ) → f + m ≡ n + 1 → s < f + m - 1 → s < n
        sooner f n m s c b = omega (arith, c, b)

      pub told_early : (b : Option (List ℕ)) → Appends a b (told next news) → Searches script search start b (Err Memory)
      told_early b w = (
        lines,
        inl goes_on,
        (length lines, same_written start b (concat st.lines ++ told next news) _ (joined ∙ whole lines) (both start a b (concat st.lines) (told next news) st.written w)),
      )

      pub told_cut : (b : Option (List ℕ)) → AppendsFront a b (told next news) → Searches script search start b (Err Write)
      told_cut b w = (lines, inl goes_on, subst (AppendsFront start b) joined (front_then start a b (concat st.lines) (told next news) st.written w))

    pub blame_fails : (fault : RunFault) (heard later : List Blame) (b : Option (List ℕ)) → TellsBlame next heard said later a b (Err fault) → Searches script search start b (Err fault)
    blame_fails Memory heard later b e = told_early e.0 e.1 e.2 b e.3
    blame_fails Write heard later b e = told_cut e.0 e.1 e.2 b e.3
    blame_fails TooManyDeliveries heard later b e = absurd e

    module _ (heard later : List Blame) (b : Option (List ℕ)) (tells : TellsBlame next heard said later a b (Ok tt)) where
      -- Memory runs out for the line of what comes.
      pub unlined : Searches script search start b (Err Memory)
      unlined = told_early heard tells.0 tells.1 b tells.3

      module _ (outcome : Outcome) (comes : IsOutcome (ordered next script) search.wanted outcome) where
        -- It is what is wanted.
        pub agreed : outcome ≡ outcomes.Agreed → Stands script search (next + 1) later start b
        agreed is = record {
          heard = st.heard ++ heard ∷ [];
          counted = counted heard tells.0 tells.1;
          agree = λ seed x y. by seed x (cases_lt seed next) y;
          lines = lines heard tells.0 tells.1;
          lines_are = subst (λ (s : List Blame). AreBlameLines search.seeds.first [] (st.heard ++ heard ∷ []) (lines heard tells.0 tells.1) s) (sym tells.2) (lines_are heard tells.0 tells.1);
          written = same_written start b (concat st.lines ++ told next tells.0) _ (joined heard tells.0 tells.1) (both start a b (concat st.lines) (told next tells.0) st.written tells.3);
        } where
          by : (seed : ℕ) → search.seeds.first ≤ seed → (seed < next) ⊎ (next ≤ seed) → seed < next + 1 → IsOutcome (ordered seed script) search.wanted outcomes.Agreed
          by seed x (inl less) y = st.agree seed x less
          by seed x (inr more) y =
              subst (λ (n : ℕ). IsOutcome (ordered n script) search.wanted outcomes.Agreed) (same seed next more y)
              (subst (IsOutcome (ordered next script) search.wanted) is comes) where
                same : (s n : ℕ) → n ≤ s → s < n + 1 → n ≡ s
                same s n m y = omega (arith, m, y)

        module _ (other : outcome ≢ outcomes.Agreed) where
          abbrev pub line : List ℕ
          line = seed_line next (outcome_line outcome)

          found : List (List ℕ)
          found = lines heard tells.0 tells.1 ++ line ∷ []

          finds : Finds script search outcome found
          unfolding found
          finds = record {
            seed = next;
            is_found = record { from = from_start; below = below; before = st.agree; comes = comes; other = other };
            heard = st.heard ++ heard ∷ [];
            each = counted heard tells.0 tells.1;
            blames = lines heard tells.0 tells.1;
            said = said ++ tells.0;
            blames_are = lines_are heard tells.0 tells.1;
            lines_are = refl;
          }

          before_line : Appends start b (concat (lines heard tells.0 tells.1))
          before_line = same_written start b (concat st.lines ++ told next tells.0) _ (joined heard tells.0 tells.1) (both start a b (concat st.lines) (told next tells.0) st.written tells.3)

          pub line_cut : (c : Option (List ℕ)) → AppendsFront b c line → Searches script search start c (Err Write)
          unfolding found
          line_cut c e = (
            found,
            inr (inr (inl (outcome, finds))),
            subst (AppendsFront start c) (one_line (lines heard tells.0 tells.1) line) (front_then start b c (concat (lines heard tells.0 tells.1)) line before_line e),
          )

          module _ (c : Option (List ℕ)) (writes : Appends b c line) where
            written : Appends start c (concat found)
            unfolding found
            written = same_written start c (concat (lines heard tells.0 tells.1) ++ line) _ (one_line (lines heard tells.0 tells.1) line) (both start b c (concat (lines heard tells.0 tells.1)) line before_line writes)

            pub chosen : (d : Option (List ℕ)) → TellsChoices script search outcome c d (Ok tt) → Searches script search start d (Ok Refused)
            chosen d e = (
              found ++ e.0,
              (outcome, found, e.0, finds, e.1, refl),
              same_written start d (concat found ++ concat e.0) _ (sym (concat-append found e.0)) (both start c d (concat found) (concat e.0) written e.2),
            )

            pub choices_fail : (fault : RunFault) (d : Option (List ℕ)) → TellsChoices script search outcome c d (Err fault) → Searches script search start d (Err fault)
            choices_fail Memory d (inl e) = (
              found,
              inr (inr (inl (outcome, finds))),
              (length found, subst (λ (o : Option (List ℕ)). Appends start o (concat (take (length found) found))) (sym e) (same_written start c (concat found) _ (whole found) written)),
            )
            choices_fail Memory d (inr e) = (
              found ++ e.0,
              inr (inr (inr (outcome, found, e.0, finds, e.1, refl))),
              (
                length found + e.2.0,
                same_written start d (concat found ++ concat (take e.2.0 e.0)) _ (sym (concat-append found (take e.2.0 e.0)) ∙ ap concat (sym (take-append-add found e.0 e.2.0)))
                    (both start c d (concat found) (concat (take e.2.0 e.0)) written e.2.1),
              ),
            )
            choices_fail Write d e = (
              found ++ e.0,
              inr (inr (inr (outcome, found, e.0, finds, e.1, refl))),
              subst (AppendsFront start d) (sym (concat-append found e.0)) (front_then start c d (concat found) (concat e.0) written e.2),
            )
            choices_fail TooManyDeliveries d e = absurd e

-- ---- choices

module _ (script : Script) (search : Search) (outcome : Outcome) where
  shrunk : search.shrinks ≡ true → (lines : List (List ℕ)) → AreChosen script search.wanted outcome lines → AreChoices script search outcome lines
  shrunk on lines are = (are, λ off. absurd (both_so search.shrinks on off)) where
    both_so : (b : Bool) → b ≡ true → b ≡ false → ⊥
    both_so b x y = cc

  -- The search shrinks what it found.
  pub shrinks : (old new : Option (List ℕ)) (r : Result (Unit {0}) RunFault) → search.shrinks ≡ true → TellsLines (AreChosen script search.wanted outcome) old new r → TellsChoices script search outcome old new r
  shrinks old new (Ok done) on e = (e.0, shrunk on e.0 e.1, e.2)
  shrinks old new (Err Memory) on (inl e) = inl e
  shrinks old new (Err Memory) on (inr e) = inr (e.0, shrunk on e.0 e.1, e.2)
  shrinks old new (Err Write) on e = (e.0, shrunk on e.0 e.1, e.2)
  shrinks old new (Err TooManyDeliveries) on e = absurd e

-- Memory runs out for the keys.
pub starved : (script : Script) (search : Search) (old : Option (List ℕ)) → Searches script search old old (Err Memory)
starved script search old = stands_early script search search.seeds.first [] old old (at_start script search old) (within search.seeds.first (search.seeds.end - search.seeds.first)) where
  within : (f n : ℕ) → f ≤ f + n
  within f n = omega arith
