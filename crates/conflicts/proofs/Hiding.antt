-- What is kept of a ViewChange's certificates shows the Commits that they show.
use Rattle.std.proofs.Common.{◌≡◌, ◌<◌, true, List, [], ◌∷◌, map, refl, sym, ap, ◌∙◌}
use Rattle.std.proofs.lemmas.Bool.{lt-ltb}
use Rattle.std.specs.Prelude.{◌||◌, ◌&&◌, Bool, not, nat_lt}
use Rattle.std.specs.List.{list_any}
use Rattle.host_types.specs.declared.SeqNo.{SeqNo}
use Rattle.host_types.specs.declared.View.{View}
use Rattle.pbft_codec.specs.declared.body.certificate.Certificate.{Certificate}
use Rattle.pbft_codec.specs.declared.body.commit.Commit.{Commit}
use Rattle.pbft_codec.specs.declared.body.view_change.ViewChange.{ViewChange}
use Rattle.conflicts.specs.Views.{IsKept, hides, reported_in, reported_of, shows, shows_place}
use Rattle.conflicts.specs.declared.views.Leaving.{Leaving}

shows_kept : (b : Commit) (xs : List Certificate) → list_any (shows_place b.view b.number) (map reported_of xs) ≡ list_any (shows b) xs
shows_kept b [] = refl
shows_kept b (x ∷ xs) = ap (λ r. shows b x || r) (shows_kept b xs)

pub reported_kept : (l : Leaving) (v : ViewChange) (b : Commit) → IsKept l v → reported_in l b.view b.number ≡ list_any (shows b) v.certificates
reported_kept l v b kept = ap (list_any (shows_place b.view b.number)) kept.reported_is ∙ shows_kept b v.certificates

-- a Commit below the view and above the low mark is hidden where no certificate shows it
pub hides_kept : (l : Leaving) (v : ViewChange) (b : Commit) (view : View) (number : SeqNo) (shown : Bool) → IsKept l v → b.view ≡ view → b.number ≡ number
    → view.0 < l.view.0 → nat_lt l.low.0 number.0 ≡ true → shown ≡ reported_in l view number → not shown ≡ hides v b
hides_kept l v b view number shown kept same_view same_number lower above is =
    let below : nat_lt b.view.0 v.view.0 ≡ true =
    ap (λ (x : View). nat_lt x.0 v.view.0) same_view ∙ (ap (λ (x : View). nat_lt view.0 x.0) (sym kept.view_is) ∙ lt-ltb view.0 l.view.0 lower) in
    let over : nat_lt v.low.0 b.number.0 ≡ true =
    ap (λ (x : SeqNo). nat_lt v.low.0 x.0) same_number ∙ (ap (λ (x : SeqNo). nat_lt x.0 number.0) (sym kept.low_is) ∙ above) in
    let same : reported_in l view number ≡ list_any (shows b) v.certificates =
    ap (λ x. reported_in l x number) (sym same_view) ∙ (ap (λ x. reported_in l b.view x) (sym same_number) ∙ reported_kept l v b kept) in
    ap not (is ∙ same)
    ∙ sym (ap (λ x. x && (nat_lt v.low.0 b.number.0 && not (list_any (shows b) v.certificates))) below
    ∙ ap (λ x. x && not (list_any (shows b) v.certificates)) over)
