-- What holds of the history in which a document is put in the place of a live one.
use Rattle.std.proofs.Common.{◌≡◌, false, true, List, [], ◌∷◌, refl, arith, inl}
use Rattle.std.proofs.lemmas.Bool.{both_ways, false≢true}
use Rattle.std.specs.Prelude.{◌↔◌}
use Rattle.funnel_model.specs.declared.call.Call.TheVariants as call
use Rattle.funnel_model.specs.declared.event.Event.{Event}
use Rattle.funnel_model.specs.declared.event.Event.TheVariants as event
use Rattle.funnel_model.specs.Example.{small}
use Rattle.funnel_model.specs.Legal.{IsLegal}
use Rattle.funnel_model.specs.Numbers.{AreStats, IsFinding}
use Rattle.funnel_model.specs.PutExample.{numbers_after, read_after, refused_after, replaced}
use Rattle.funnel_model.specs.Slices.{IsRetired}
use Rattle.funnel_model.proofs.ExampleLemmas.{no_bits, none_wide, one_slice, two_columns}
use Rattle.funnel_model.proofs.Histories.{legal_before}
use Rattle.funnel_model.proofs.SpareLemmas.{finds_last, not_retired, room_by, token_finds_last}

pub refused_after_is_legal : IsLegal small refused_after
refused_after_is_legal = (
  record { pass = omega arith; at_once = tt; rule = inl (record { idle = tt; in_range = omega arith; room = room_by 2 0 0 _ (omega arith) refl refl refl refl; lowest = λ lower in'. absurd (omega arith); next = refl }) },
  (
    record { pass = omega arith; at_once = tt; rule = record { taken = refl; inside = no_bits; in_word = none_wide } },
    (
      record { pass = omega arith; at_once = tt; rule = inl (record { idle = refl; in_range = omega arith; room = room_by 2 0 1 _ (omega arith) refl refl refl refl; lowest = λ lower in'. absurd (omega arith); next = refl }) },
      (
        record { pass = omega arith; at_once = tt; rule = record { taken = refl; inside = no_bits; in_word = none_wide } },
        (
          record { pass = omega arith; at_once = tt; rule = refl },
          (
            record { pass = omega arith; at_once = tt; rule = record { query = []; begun = refl } },
            (
              record { pass = omega arith; at_once = tt; rule = record { idle = refl; reads = tt } },
              (
                record { pass = omega arith; at_once = tt; rule = record { idle = refl; reads = tt } },
                (
                  record { pass = omega arith; at_once = tt; rule = record { idle = refl; reads = tt } },
                  (
                    record { pass = omega arith; at_once = tt; rule = record { idle = refl; refused = one_slice _ (inl (two_columns _ refl refl, not_retired 2 0 1 _ (omega arith) refl refl)) } },
                    tt,
                  ),
                ),
              ),
            ),
          ),
        ),
      ),
    ),
  ),
)

-- the events after the put
abbrev after_put : List Event
after_put =
    event.Find 0 [] ∷ event.End 0 ∷ event.Read 0 (call.Get 9) ∷ event.Read 0 (call.Get 5) ∷ event.Read 0 call.Stats ∷ event.No 0 (call.Put 9 []) ∷ []

pub replaced_is_legal : IsLegal small replaced
replaced_is_legal = legal_before small replaced after_put refused_after_is_legal

-- the one slice isn't retired, and no find is running
pub numbers_are_so : AreStats small read_after numbers_after
numbers_are_so = record {
  documents_are = refl;
  place_is = refl;
  base_is = refl;
  columns_are = refl;
  free_are = refl;
  retired_are = record {
    test = λ slice. false;
    tells = one_slice (λ slice. (false ≡ true) ↔ IsRetired 2 slice read_after)
        (λ is. absurd (false≢true is), λ retired. absurd (not_retired 2 0 1 read_after (omega arith) refl refl retired));
    count = refl;
  };
  finds_are = record {
    test = λ pass. false;
    tells = one_slice (λ pass. (false ≡ true) ↔ IsFinding read_after pass)
        (λ is. absurd (false≢true is), λ finding. absurd (both_ways (finds_last 0 read_after) refl (token_finds_last read_after 0 finding.0 finding.1)));
    count = refl;
  };
}
