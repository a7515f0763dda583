use Rattle.std.proofs.Common.{◌≡◌, ◌<◌, ◌/◌, ◌+◌, length, sym, ◌∙◌, arith}
use Rattle.funnel_model.proofs.SliceSetLemmas.{first_here, first_later, later_used, later_within, none_from, none_later, offset_fits, place_fits, slice_fits}
use Rattle.funnel_model.proofs.slice_set.SliceSet.next.Goals as goal

pub returns-then-start-eq16 : goal.returns-then-start-eq16
returns-then-start-eq16 c =
    let end = c.if-start-eq16.true in
    none_from c.self.inside.words c.args.self.now c.args.from c.self.view_is (λ slice later below set. omega (arith, end, later, below))

pub returns-in-Some : goal.returns-in-Some
returns-in-Some c =
    let inside = c.if-start-eq16.false in
    let fits = c.requires in
    first_here c.self.inside.words c.args.self.now c.args.from c.in-Some.bit c.self.view_is (omega (arith, inside, fits)) c.in-Some.ensures

pub returns-in_default-first_used : goal.returns-in_default-first_used
returns-in_default-first_used c =
    let long : length c.self.inside.words ≡ 16 = omega arith in
    none_later c.self.inside.words c.args.self.now c.args.from c.self.view_is long c.in_default.ensures (sym c.first_used.ensures ∙ c.in_default-first_used.is)

pub lowest_bit-requires : goal.lowest_bit-requires
lowest_bit-requires c =
    let long : length c.self.inside.words ≡ 16 = omega arith in
    later_used c.self.inside.words (c.args.from / 64 + 1) c.in-Some-first_used.more long (sym c.first_used.ensures ∙ c.in-Some-first_used.is)

-- the word with the first slice is one of the sixteen
within : (c : goal.In-Some-first_used) → c.args.from / 64 + 1 + c.in-Some-first_used.more < 16
within c =
    let long : length c.self.inside.words ≡ 16 = omega arith in
    later_within c.self.inside.words (c.args.from / 64 + 1) c.in-Some-first_used.more long (sym c.first_used.ensures ∙ c.in-Some-first_used.is)

pub overflow_add-index : goal.overflow_add-index
overflow_add-index c = (place_fits (c.args.from / 64 + 1) c.in-Some-first_used.more (within c)).0

pub overflow_add-index-2 : goal.overflow_add-index-2
overflow_add-index-2 c = (place_fits (c.args.from / 64 + 1) c.in-Some-first_used.more (within c)).1

pub overflow_cast-result-2 : goal.overflow_cast-result-2
overflow_cast-result-2 c = (place_fits (c.args.from / 64 + 1) c.in-Some-first_used.more (within c)).2

pub overflow_mul-result-2 : goal.overflow_mul-result-2
overflow_mul-result-2 c = (slice_fits (c.args.from / 64 + 1 + c.in-Some-first_used.more) 0 (within c) (omega arith)).0

pub offset_bounds-words-index : goal.offset_bounds-words-index
offset_bounds-words-index c = offset_fits (c.args.from / 64 + 1 + c.in-Some-first_used.more) (within c)

pub bounds-words-index : goal.bounds-words-index
bounds-words-index c = within c

pub overflow_add-result-2 : goal.overflow_add-result-2
overflow_add-result-2 c =
    let long : length c.self.inside.words ≡ 16 = omega arith in
    let within = later_within c.self.inside.words (c.args.from / 64 + 1) c.in-Some-first_used.more long (sym c.first_used.ensures ∙ c.in-Some-first_used.is) in
    (slice_fits (c.args.from / 64 + 1 + c.in-Some-first_used.more) c.lowest_bit.result within c.lowest_bit.ensures.in_range).1

pub returns : goal.returns
returns c =
    let long : length c.self.inside.words ≡ 16 = omega arith in
    first_later c.self.inside.words c.args.self.now c.args.from c.in-Some-first_used.more c.lowest_bit.result c.self.view_is long c.in_default.ensures
    (sym c.first_used.ensures ∙ c.in-Some-first_used.is) c.lowest_bit.ensures
