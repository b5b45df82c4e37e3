use Rattle.std.proofs.Common.{◌≡◌, take}
use Rattle.seal.specs.Lists.{CheckedMessages}
use Rattle.seal.proofs.checked_list.CheckedList.copy.Given as goal

abbrev pub invariant-loop-message : goal.invariant-loop-message
invariant-loop-message l = ◌≡◌ {A = CheckedMessages} l.copy (record { config = l.self.config; messages = take l.message-index l.self.messages })
