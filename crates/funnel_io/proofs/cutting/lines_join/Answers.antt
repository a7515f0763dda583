use Rattle.funnel_io.proofs.CutLaws.{lines_joined, lines_are_free, rest_is_free, only_cut}
use Rattle.funnel_io.proofs.cutting.lines_join.Goals as goal

pub returns : goal.returns
returns c = record { joined = lines_joined; lines_free = lines_are_free; rest_free = rest_is_free; only = only_cut }
