-- A load of two workers, event by event.
use Rattle.std.proofs.Common.{◌≡◌, ◌≢◌, ◌<◌, ◌≤◌, ◌++◌, List, [], ◌∷◌, codes, take, drop, refl, sym, ◌∙◌, arith, inl}
use Rattle.std.specs.Fmt.{digits}
use Rattle.std.proofs.lemmas.Bool.{false≢true}
use Rattle.std.proofs.lemmas.List.Elements.{All-from_recursion}
use Rattle.caseless.proofs.Computing.{caseless}
use Rattle.unicode_segmentation.proofs.Computing.{unicode_segmentation}
use Rattle.funnel_model.specs.declared.call.Call.TheVariants as call
use Rattle.funnel_model.specs.declared.event.Event.{Event}
use Rattle.funnel_model.specs.declared.event.Event.TheVariants as event
use Rattle.funnel_model.specs.declared.reply.Reply.{Reply}
use Rattle.funnel_model.specs.declared.reply.Reply.TheVariants as reply
use Rattle.funnel_model.specs.Events.{pass_of}
use Rattle.funnel_model.specs.History.{moved_by, own}
use Rattle.funnel_model.specs.Legal.{IsIdle, IsLegal}
use Rattle.funnel_model.specs.Steps.{Linear}
use Rattle.funnel_model.proofs.ExampleLemmas.{no_bits, none_wide, two_columns}
use Rattle.funnel_model.proofs.Histories.{legal_before}
use Rattle.funnel_model.proofs.NothingMoved.{moves_nothing-before}
use Rattle.funnel_model.proofs.SpareLemmas.{room_by}
use Rattle.funnel_model.proofs.StepLemmas.{step_made_from}
use Rattle.load_gen.specs.Documents.{document, documents}
use Rattle.load_gen.specs.Jobs.{adds_of, deletes_of, jobs, queries_of}
use Rattle.load_laws.specs.Workers.{HasAsked, IsLoaded}
use Rattle.load_laws.specs.WorkersExample.{both_added, both_queried, first_replies, replies_to, second_replies, two_passes}

abbrev events : List Event
events = both_added ++ [] ++ both_queried

events_are_legal : IsLegal two_passes events
events_are_legal = (
  record { pass = omega arith; at_once = tt; rule = inl (record { idle = tt; in_range = omega arith; room = room_by 2 0 0 _ (omega arith) refl refl refl refl; lowest = λ lower in'. absurd (omega arith); next = refl }) },
  (
    record { pass = omega arith; at_once = tt; rule = inl (record { idle = tt; in_range = omega arith; room = room_by 2 0 1 _ (omega arith) refl refl refl refl; lowest = λ lower in'. absurd (omega arith); next = refl }) },
    (
      record { pass = omega arith; at_once = tt; rule = record { taken = refl; inside = no_bits; in_word = none_wide } },
      (
        record { pass = omega arith; at_once = tt; rule = record { taken = refl; inside = no_bits; in_word = none_wide } },
        (
          record { pass = omega arith; at_once = tt; rule = refl },
          (
            record { pass = omega arith; at_once = tt; rule = refl },
            (
              record { pass = omega arith; at_once = tt; rule = record { query = codes "w0"; begun = refl } },
              (
                record { pass = omega arith; at_once = tt; rule = record { query = codes "w0 w1"; begun = refl } },
                (
                  record { pass = omega arith; at_once = tt; rule = refl },
                  (
                    record { pass = omega arith; at_once = tt; rule = record { query = codes "w1"; begun = refl } },
                    (
                      record { pass = omega arith; at_once = tt; rule = refl },
                      (
                        record { pass = omega arith; at_once = tt; rule = record { query = codes "w2"; begun = refl } },
                        (
                          record { pass = omega arith; at_once = tt; rule = refl },
                          (
                            record { pass = omega arith; at_once = tt; rule = record { query = codes "w3"; begun = refl } },
                            (
                              record { pass = omega arith; at_once = tt; rule = refl },
                              (
                                record { pass = omega arith; at_once = tt; rule = record { query = codes "w1 w2"; begun = refl } },
                                (
                                  record { pass = omega arith; at_once = tt; rule = refl },
                                  (
                                    record { pass = omega arith; at_once = tt; rule = record { query = codes "w2 w3"; begun = refl } },
                                    (
                                      record { pass = omega arith; at_once = tt; rule = refl },
                                      (
                                        record { pass = omega arith; at_once = tt; rule = record { query = codes "w3 w4"; begun = refl } },
                                        tt,
                                      ),
                                    ),
                                  ),
                                ),
                              ),
                            ),
                          ),
                        ),
                      ),
                    ),
                  ),
                ),
              ),
            ),
          ),
        ),
      ),
    ),
  ),
)

-- what a pass that moved nothing moved, and what a find and an add may move
none_moved : 0 ≤ 0
none_moved = omega arith

few_moved : 0 ≤ 16
few_moved = omega arith

first_run : Linear two_passes 0 [] (take 14 events) (jobs 2 1 0 2 0) first_replies
unfolding digits unicode_segmentation caseless
first_run = (
  take 4 events,
  step_made_from two_passes 0 (take 0 events) (take 3 events) (event.Add 0 1 (document 1 0 0) 0 0 []) (take 0 (drop 4 events))
      (call.Add 1 (document 1 0 0)) (reply.Added 2) tt (take 3 (drop 0 events), refl) refl few_moved refl refl refl refl refl refl
      (legal_before two_passes (take 4 events) (drop 4 events) events_are_legal) refl,
  (
    take 7 events,
    step_made_from two_passes 0 (take 4 events) (take 4 events) (event.Find 0 (codes "w0")) (take 2 (drop 5 events))
        (call.Find (codes "w0")) (reply.Found []) refl (take 0 (drop 4 events), refl) refl none_moved refl refl refl refl refl refl
        (legal_before two_passes (take 7 events) (drop 7 events) events_are_legal) refl,
    (
      take 10 events,
      step_made_from two_passes 0 (take 7 events) (take 8 events) (event.Find 0 (codes "w1")) (take 1 (drop 9 events))
          (call.Find (codes "w1")) (reply.Found (1 ∷ [])) refl (take 1 (drop 7 events), refl) refl none_moved refl refl refl refl refl refl
          (legal_before two_passes (take 10 events) (drop 10 events) events_are_legal) refl,
      (
        take 12 events,
        step_made_from two_passes 0 (take 10 events) (take 10 events) (event.Find 0 (codes "w2")) (take 1 (drop 11 events))
            (call.Find (codes "w2")) (reply.Found []) refl (take 0 (drop 10 events), refl) refl none_moved refl refl refl refl refl refl
            (legal_before two_passes (take 12 events) (drop 12 events) events_are_legal) refl,
        (
          take 14 events,
          step_made_from two_passes 0 (take 12 events) (take 12 events) (event.Find 0 (codes "w3")) (take 1 (drop 13 events))
              (call.Find (codes "w3")) (reply.Found []) refl (take 0 (drop 12 events), refl) refl none_moved refl refl refl refl refl refl
              (legal_before two_passes (take 14 events) (drop 14 events) events_are_legal) refl,
          refl,
        ),
      ),
    ),
  ),
)

second_run : Linear two_passes 1 [] events (jobs 2 1 0 2 1) second_replies
unfolding digits unicode_segmentation caseless
second_run = (
  take 3 events,
  step_made_from two_passes 1 (take 0 events) (take 2 events) (event.Add 1 2 (document 1 0 1) 0 1 []) (take 0 (drop 3 events))
      (call.Add 2 (document 1 0 1)) (reply.Added 1) tt (take 2 (drop 0 events), refl) refl few_moved refl refl refl refl refl refl
      (legal_before two_passes (take 3 events) (drop 3 events) events_are_legal) refl,
  (
    take 8 events,
    step_made_from two_passes 1 (take 3 events) (take 5 events) (event.Find 1 (codes "w0 w1")) (take 2 (drop 6 events))
        (call.Find (codes "w0 w1")) (reply.Found []) refl (take 2 (drop 3 events), refl) refl none_moved refl refl refl refl refl refl
        (legal_before two_passes (take 8 events) (drop 8 events) events_are_legal) refl,
    (
      take 16 events,
      step_made_from two_passes 1 (take 8 events) (take 14 events) (event.Find 1 (codes "w1 w2")) (take 1 (drop 15 events))
          (call.Find (codes "w1 w2")) (reply.Found []) refl (take 6 (drop 8 events), refl) refl none_moved refl refl refl refl refl refl
          (legal_before two_passes (take 16 events) (drop 16 events) events_are_legal) refl,
      (
        take 18 events,
        step_made_from two_passes 1 (take 16 events) (take 16 events) (event.Find 1 (codes "w2 w3")) (take 1 (drop 17 events))
            (call.Find (codes "w2 w3")) (reply.Found []) refl (take 0 (drop 16 events), refl) refl none_moved refl refl refl refl refl refl
            (legal_before two_passes (take 18 events) (drop 18 events) events_are_legal) refl,
        (
          take 20 events,
          step_made_from two_passes 1 (take 18 events) (take 18 events) (event.Find 1 (codes "w3 w4")) (take 1 (drop 19 events))
              (call.Find (codes "w3 w4")) (reply.Found []) refl (take 0 (drop 18 events), refl) refl none_moved refl refl refl refl refl refl
              (legal_before two_passes (take 20 events) (drop 20 events) events_are_legal) refl,
          refl,
        ),
      ),
    ),
  ),
)

pub is_loaded : IsLoaded two_passes 2 1 0 2 events replies_to
is_loaded = record {
  some = omega arith;
  legal = events_are_legal;
  caused = λ earlier e later whole moved. absurd (false≢true (sym (moves_nothing-before events earlier e later whole refl).1 ∙ moved));
  no_other = All-from_recursion (λ (e : Event). pass_of e < 2) events (omega arith, (omega arith, (omega arith, (omega arith, (omega arith, (omega arith, (omega arith, (omega arith, (omega arith, (omega arith, (omega arith, (omega arith, (omega arith, (omega arith, (omega arith, (omega arith, (omega arith, (omega arith, (omega arith, (omega arith, tt))))))))))))))))))));
  parts = record {
    adding = both_added;
    deleting = [];
    querying = both_queried;
    whole = refl;
    adds = two_columns (λ worker. own worker both_added ≡ adds_of (documents 2 1 0) 2 worker) refl refl;
    idle_after_adds = two_columns (λ worker. IsIdle worker both_added) refl refl;
    moved = two_columns (λ worker. moved_by worker events ≡ moved_by worker both_added) refl refl;
    deletes = two_columns (λ worker. own worker [] ≡ deletes_of (documents 2 1 0) 2 worker) refl refl;
    idle_after_deletes = two_columns (λ worker. IsIdle worker both_added) refl refl;
    queries = two_columns (λ worker. own worker both_queried ≡ queries_of 2 worker) refl refl;
  };
  asked = two_columns (λ worker. HasAsked two_passes events worker (jobs 2 1 0 2 worker) (replies_to worker))
      (record {
        front = take 14 events;
        seen = record { later = drop 14 events; whole = refl; silent = refl };
        run = first_run;
        memory = All-from_recursion (λ (r : Reply). r ≢ reply.Memory) first_replies (λ same. cc, (λ same. cc, (λ same. cc, (λ same. cc, (λ same. cc, tt)))));
      })
      (record {
        front = events;
        seen = record { later = []; whole = refl; silent = refl };
        run = second_run;
        memory = All-from_recursion (λ (r : Reply). r ≢ reply.Memory) second_replies (λ same. cc, (λ same. cc, (λ same. cc, (λ same. cc, (λ same. cc, tt)))));
      });
}
