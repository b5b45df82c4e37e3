-- Statement: what a replica says once of each view as it changes views, and which of its Commits a ViewChange hides (Castro and
-- Liskov, section 4.4).
use Rattle.std.specs.Prelude.{◌≡◌, ℕ, ◌==◌, ◌&&◌, Bool, not, nat_lt, nat_le, map, false, Option, Some, None}
use Rattle.std.specs.List.{list_any}
use Rattle.host_types.specs.declared.Digest.{Digest}
use Rattle.host_types.specs.declared.SeqNo.{SeqNo}
use Rattle.host_types.specs.declared.View.{View}
use Rattle.pbft_codec.specs.declared.body.Body.{Body}
use Rattle.pbft_codec.specs.declared.body.Body.TheVariants as bodies
use Rattle.pbft_codec.specs.declared.body.certificate.Certificate.{Certificate}
use Rattle.pbft_codec.specs.declared.body.commit.Commit.{Commit}
use Rattle.pbft_codec.specs.declared.body.view_change.ViewChange.{ViewChange}
use Rattle.pbft_codec.specs.declared.signed.Signed.{Signed}
use Rattle.pbft_codec.specs.Encoding.{signed_text}
use Rattle.sha2.specs.Sha256.{sha256}
use Rattle.conflicts.specs.declared.claim.Claim.{Claim}
use Rattle.conflicts.specs.declared.claim.Topic.TheVariants as topics
use Rattle.conflicts.specs.declared.views.Leaving.{Leaving}
use Rattle.conflicts.specs.declared.views.Reported.{Reported}

-- the digest of what was signed
abbrev pub digest_of : Signed Body → Digest
digest_of m = record { 0 = sha256 (signed_text m) }

-- What a body claims of its view, where it changes views: itself, by its digest.
abbrev pub view_claim_in : ℕ → Digest → Body → Option Claim
view_claim_in id digest (bodies.ViewChange v) = Some (record { signer = id; topic = topics.ViewChange v.view; digest = digest })
view_claim_in id digest (bodies.NewView n) = Some (record { signer = id; topic = topics.NewView n.view; digest = digest })
view_claim_in id digest _ = None

abbrev pub view_claim_of : Signed Body → Option Claim
view_claim_of m = view_claim_in m.id (digest_of m) m.body

-- ---- what is hidden

-- the certificate is for the Commit's number, of its view or a later one
abbrev pub shows : Commit → Certificate → Bool
shows b x = x.pre_prepare.body.number.0 == b.number.0 && nat_le b.view.0 x.pre_prepare.body.view.0

-- The Commit is of a lower view and above the low mark, and no certificate of the ViewChange shows it.
abbrev pub hides : ViewChange → Commit → Bool
hides v b = nat_lt b.view.0 v.view.0 && (nat_lt v.low.0 b.number.0 && not (list_any (shows b) v.certificates))

-- ---- Internal: what is kept of a ViewChange

abbrev pub reported_of : Certificate → Reported
reported_of x = record { number = x.pre_prepare.body.number; view = x.pre_prepare.body.view }

pub record IsKept (l : Leaving) (v : ViewChange) : Type 0 where
  pub view_is : l.view ≡ v.view
  pub low_is : l.low ≡ v.low
  pub reported_is : l.reported.items ≡ map reported_of v.certificates

abbrev pub shows_place : View → SeqNo → Reported → Bool
shows_place view number x = x.number.0 == number.0 && nat_le view.0 x.view.0

abbrev pub reported_in : Leaving → View → SeqNo → Bool
reported_in l view number = list_any (shows_place view number) l.reported.items

-- a view is at most this one, if there is one
abbrev pub reaches : View → Option View → Bool
reaches view None = false
reaches view (Some highest) = nat_le view.0 highest.0
