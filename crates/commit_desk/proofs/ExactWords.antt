-- What a read bit tells of an exact word: a document that was live in the column as the find began has it.
use Rattle.std.proofs.Common.{sym, subst}
use Rattle.funnel_model.specs.Sizes.{words_of_slice}
use Rattle.funnel_model.specs.Tunings.{treat}
use Rattle.row_layout.proofs.Owners.{exact-owned, owned-tells-documents}
use Rattle.row_layout.proofs.SetBits.{live_uncleared, put_stands}
use Rattle.row_layout.specs.DocumentBits.{bit_of_row}
use Rattle.row_layout.specs.Owners.{Owns, OwnsIn}
use Rattle.commit_desk.proofs.OpenReads.{legal_then, of_its_owner}
use Rattle.commit_desk.specs.Laws.{ReadBitsTellWords}

pub read_tells_words : ReadBitsTellWords
read_tells_words limits opening earlier pass opened_at slice column word document since legal sound reads lives =
    let config = treat opening slice earlier in
    let bit = bit_of_row (words_of_slice opening) slice column reads.row in
    let before = legal_then limits opening earlier pass opened_at legal reads.find in
    let put = lives.put in
    let stays = live_uncleared limits earlier slice column document since before lives in
    let owns : Owns limits opening earlier slice column bit = record {
      in_engine = reads.in_engine;
      treated = subst (λ n. OwnsIn n config slice column bit) (sym reads.room)
          (exact-owned (words_of_slice opening) config slice column word reads.row reads.fits reads.in_slice reads.exact reads.its_row);
    } in
    let among =
    of_its_owner limits opening earlier pass opened_at legal reads.find slice reads.in_use column bit reads.limits_are reads.opening_is reads.read owns put.event
    (put_stands earlier slice column document since lives.later put stays) in
    owned-tells-documents limits opening earlier slice column document since lives.later word reads.row before sound put stays
    reads.in_range reads.in_slice reads.exact reads.its_row among
