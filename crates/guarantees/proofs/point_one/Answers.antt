-- Point 1 holds. Assumes nothing.
use Rattle.guarantees.proofs.Answered.{open_answered, read_answered, find_answered, write_answered, release_answered, close_answered}
use Rattle.guarantees.proofs.Making.{format_answered}
use Rattle.guarantees.proofs.Shuffled.{shuffle_answered}
use Rattle.guarantees.proofs.Stored.{step}
use Rattle.guarantees.proofs.point_one.Goals as goal

pub returns : goal.returns
returns c =
    record {
      opens = open_answered;
      reads = read_answered;
      finds = find_answered;
      writes = write_answered;
      releases = release_answered;
      closes = close_answered;
      formats = format_answered;
      shuffles = shuffle_answered;
      follows = λ st c. (step st c).follows;
    }
