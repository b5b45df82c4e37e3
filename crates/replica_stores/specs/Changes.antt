-- Internal: what a map of ViewChange messages stands for.
use Rattle.std.specs.Prelude.{◌≡◌, ℕ, ◌==◌, ◌&&◌, ◌||◌, Bool, not, nat_lt, min, List, [], Option, Some, None}
use Rattle.std.specs.List.{AllByRecursion}
use Rattle.std.specs.BTreeMap as tree
use Rattle.host_types.specs.Configuration.{Configuration}
use Rattle.pbft_codec.specs.declared.body.Body.{Body}
use Rattle.pbft_codec.specs.declared.body.Body.TheVariants as bodies
use Rattle.pbft_model.specs.Acts.{with_body}
use Rattle.pbft_model.specs.Certificates.{some_by}
use Rattle.pbft_model.specs.Setup.{gathered, is_least}
use Rattle.pbft_model.specs.Tables.{Key, Table, at, change_key}
use Rattle.pbft_model.specs.Words.{Replica, Signed, ViewChange}
use Rattle.seal.specs.Opening.{CheckedMessage}
use Rattle.replica_stores.specs.Entries.{table_of}

-- A ViewChange's body. No message of another kind is kept.
abbrev pub change_in : Body → ViewChange
change_in (bodies.ViewChange b) = b
change_in _ = record { view = record { 0 = 0 }; low = record { 0 = 0 }; checkpoints = []; certificates = [] }

abbrev pub as_change : CheckedMessage → Signed ViewChange
as_change m = with_body m.message (change_in m.message.body)

-- a message's view and signer, and the message under them
abbrev pub Origin : Type 0
Origin = ℕ × ℕ

abbrev pub Entry : Type 0
Entry = Origin × CheckedMessage

abbrev pub key_of : Origin → Key
key_of origin = change_key origin.0 origin.1

abbrev pub changes_in : tree.BTreeMap Origin CheckedMessage → Table (Signed ViewChange)
changes_in m = table_of key_of as_change m.entries

-- A replica's ViewChange under the configuration, at its view and its signer.
pub record IsChange (c : Configuration) (e : Entry) : Type 0 where
  pub config : e.1.config ≡ c
  pub is : e.1.message.body ≡ bodies.ViewChange (change_in e.1.message.body)
  pub view : (change_in e.1.message.body).view.0 ≡ e.0.0
  pub signer : e.1.message.id ≡ e.0.1
  pub role : e.1.message.role ≡ Replica

abbrev pub AreChanges : Configuration → List Entry → Type 0
AreChanges c es = AllByRecursion (IsChange c) es

-- whether replica i's ViewChange for this view is in the table
abbrev pub is_wanted : Table (Signed ViewChange) → ℕ → ℕ → Bool
is_wanted table view i = some_by i (λ v. v.view.0 == view) (at table (change_key view i))

-- and i is another than this one
abbrev pub is_other_wanted : Table (Signed ViewChange) → ℕ → ℕ → ℕ → Bool
is_other_wanted table view me i = not (i == me) && is_wanted table view i

-- of the signers below n, those that an own NewView is made of: itself, and so many of the others
abbrev pub chosen_below : ℕ → ℕ → Table (Signed ViewChange) → ℕ → ℕ → List (Signed ViewChange)
chosen_below n many table view me =
    gathered (λ i. i == me || is_least many (is_other_wanted table view me) i) (λ i. at table (change_key view i)) n

-- of a higher view, and of another replica
abbrev pub is_ahead : ℕ → ℕ → Origin → Bool
is_ahead view me origin = nat_lt view origin.0 && not (origin.1 == me)

-- the smaller of the least so far and this one
abbrev pub least_with : Option ℕ → ℕ → Option ℕ
least_with None n = Some n
least_with (Some m) n = Some (min n m)
