-- Internal: the words of the crates below that these definitions speak with.
pub use Rattle.host_types.specs.declared.ClientId.{ClientId}
pub use Rattle.host_types.specs.declared.Digest.{Digest}
pub use Rattle.host_types.specs.declared.SeqNo.{SeqNo}
pub use Rattle.host_types.specs.declared.View.{View}
pub use Rattle.host_types.specs.declared.request.Request.{Request}
pub use Rattle.host_types.specs.declared.request.Reply.{Reply}
pub use Rattle.host_types.specs.Configuration.{Configuration, IsConfiguration, replicas_for}
pub use Rattle.seal.specs.SigningState.{SigningState}
pub use Rattle.seal.specs.Keys.{IsKeyOf, leaf_count}
pub use Rattle.pbft_codec.specs.declared.body.Body.{Body}
pub use Rattle.pbft_codec.specs.declared.body.certificate.Certificate.{Certificate}
pub use Rattle.pbft_codec.specs.declared.body.checkpoint.Checkpoint.{Checkpoint}
pub use Rattle.pbft_codec.specs.declared.body.commit.Commit.{Commit}
pub use Rattle.pbft_codec.specs.declared.body.fetch.Fetch.{Fetch}
pub use Rattle.pbft_codec.specs.declared.body.new_view.NewView.{NewView}
pub use Rattle.pbft_codec.specs.declared.body.pre_prepare.PrePrepare.{PrePrepare}
pub use Rattle.pbft_codec.specs.declared.body.prepare.Prepare.{Prepare}
pub use Rattle.pbft_codec.specs.declared.body.reply.ReplyBody.{ReplyBody}
pub use Rattle.pbft_codec.specs.declared.body.request.RequestBody.{RequestBody}
pub use Rattle.pbft_codec.specs.declared.body.snapshot.Snapshot.{Snapshot}
pub use Rattle.pbft_codec.specs.declared.body.view_change.ViewChange.{ViewChange}
pub use Rattle.pbft_codec.specs.declared.signed.Role.{Role}
pub use Rattle.pbft_codec.specs.declared.signed.Role.TheVariants.{Replica, Client}
pub use Rattle.pbft_codec.specs.declared.signed.Signed.{Signed}
pub use Rattle.pbft_codec.specs.Encoding.{signed_text}
pub use Rattle.seal.specs.declared.part.Part.{Part}
pub use Rattle.seal.specs.Parts.{as_message, messages_in, part_of, parts_of}
pub use Rattle.seal.specs.Opening.{CheckedMessage, IsChecked, sealed_message}
pub use Rattle.seal.specs.Signers.{IsAuthentic}
