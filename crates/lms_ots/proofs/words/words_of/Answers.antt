use Rattle.lms_ots.proofs.Blocks.{bytes_of_words}
use Rattle.sha_lanes.proofs.LaneLemmas.{below_eight}
use Rattle.lms_ots.proofs.words.words_of.Goals as goal

pub returns : goal.returns
returns c =
    bytes_of_words _ c.args.bytes.now
    (below_eight _ c.word_at.ensures c.word_at-2.ensures c.word_at-3.ensures c.word_at-4.ensures c.word_at-5.ensures c.word_at-6.ensures c.word_at-7.ensures c.word_at-8.ensures)
    c.fits-bytes c.told-bytes
