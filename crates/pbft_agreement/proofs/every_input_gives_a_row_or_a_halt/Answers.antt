-- As `proofs/Giving.antt` has it.
use Rattle.pbft_agreement.proofs.Giving.{gives, read_gives, other_reads, none_unread, input_read}
use Rattle.pbft_agreement.proofs.every_input_gives_a_row_or_a_halt.Goals as goal

pub returns : goal.returns
returns k = record {
  begun = gives;
  all = λ c me s input comes opened. read_gives c me s input comes opened (input_read c input);
  read = read_gives;
  others = λ c me s input comes opened other. read_gives c me s input comes opened (other_reads c input other);
  never_neither = λ c me s input comes opened neither. none_unread c input (λ reads. neither (read_gives c me s input comes opened reads));
}
