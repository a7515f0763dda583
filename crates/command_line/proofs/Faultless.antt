-- Where a parse has no kind of error, `clap` takes the words.
use Rattle.std.proofs.Common.{◌≡◌, ◌+◌, ◌&&◌, ◌||◌, ℕ, Bool, cond, codes, true, false, not, zero, suc, refl, subst, arith, List, [], ◌∷◌, length, drop, Option, Some, None, is_some, nat_le, nat_lt, ◌==◌, min}
use Rattle.std.proofs.lemmas.Bool.Decides.{nat_tests}
use Rattle.std.specs.Prelude.{encode_utf8, slice_get, find}
use Rattle.std.specs.List.{list_all, list_any}
use Rattle.std.specs.Option.{option_map_or}
use Rattle.std.specs.Str.{bytes_eq, chars}
use Rattle.clap.specs.Lexer.{long_of, short_of}
use Rattle.clap.specs.Values.{refused_kind}
use Rattle.clap.specs.ValueTests.{accepts}
use Rattle.clap.specs.Matches.{count_text}
use Rattle.clap.specs.Facts.{explicit_source, parser_of_value, unwrap_or_range}
use Rattle.clap.specs.Walk.{Held, Names, Row, Rule, Step, Text, Waiting, Walk, action_of, answers_to, arg_by_id, arg_by_index, arg_by_long, arg_by_short, attached_value, count_of, finished, has_row, is_pending, most_values, nothing_held, reacted, settled, subcommand_met, takes_several, takes_values, values_or_missing, walk, walk_from, walked, word_met}
use Rattle.clap.specs.Walk as walk_words
use Rattle.clap.specs.Simple.{App, Shape, entered, label_of, names_of}
use Rattle.clap.specs.Takes.{action_passes, built_takes, bundle_passes, bundle_step_passes, count_passes, default_passes, entered_passes, flag_word_passes, flags_pass, is_given, is_valid, level_passes, long_passes, option_passes, other_passes, positional_passes, react_passes, set_passes, settle_passes, short_passes, step_passes, turn_passes, use_passes, walk_passes, word_passes}
use Rattle.clap.specs.Kinds.{Kinds, check_kinds, or_else, range_kinds, value_kinds, values_kinds}
use Rattle.clap.specs.Faults.{action_fault, built_fault, bundle_fault, bundle_step_fault, check_fault, count_fault, entered_fault, flag_word_fault, flags_fault, has_free_rules, level_fault, long_fault, option_fault, other_fault, positional_fault, react_fault, repeat_fault, set_fault, settle_fault, short_fault, step_fault, stray_fault, turn_fault, use_fault, walk_fault, word_fault}
use Rattle.clap.specs.declared.builder.action.ArgAction.{ArgAction}
use Rattle.clap.specs.declared.builder.action.ArgAction.TheVariants as action
use Rattle.clap.specs.declared.builder.value_parser.ValueParser.{ValueParser}
use Rattle.clap.specs.declared.error.kind.ErrorKind.{ErrorKind}
use Rattle.clap.specs.declared.error.kind.ErrorKind.TheVariants as kind

-- no kind of error comes
abbrev pub IsFaultless : Kinds → Type 0
IsFaultless kinds = kinds ≡ []

pub or_else-none : (a b : Kinds) → IsFaultless (or_else a b) → IsFaultless a × IsFaultless b
or_else-none [] b e = (refl, e)
or_else-none (k ∷ ks) b e = absurd (cc)

pub all_of_two : (a b : Bool) → a ≡ true → b ≡ true → (a && b) ≡ true
all_of_two true b p q = q
all_of_two false b p q = p

-- a test that is true where no kind comes
from_test : (b : Bool) (k : ErrorKind) → IsFaultless (cond b [] (k ∷ [])) → b ≡ true
from_test true k e = refl
from_test false k e = absurd (cc)

-- and one that is false
from_fault : (b : Bool) (k : ErrorKind) → IsFaultless (cond b (k ∷ []) []) → b ≡ false
from_fault true k e = absurd (cc)
from_fault false k e = refl

-- ---- values

values_are_taken : (ignore_case : Bool) (parser : ValueParser) (vs : List Text) → IsFaultless (values_kinds ignore_case parser vs) → list_all (accepts ignore_case parser) vs ≡ true
values_are_taken ignore_case parser [] e = refl
values_are_taken ignore_case parser (v ∷ vs) e =
    let parts = or_else-none (value_kinds ignore_case parser v) _ e in
    all_of_two _ _ (from_test (accepts ignore_case parser v) (refused_kind parser) parts.0) (values_are_taken ignore_case parser vs parts.1)

range_is_met : (least most n : ℕ) → IsFaultless (range_kinds least most n) → (nat_le least n ≡ true) × (nat_le n most ≡ true)
range_is_met least most n e = (low (nat_lt 0 least && n == 0) (least == most) (least == n) (nat_lt n least) (nat_lt most n) refl refl refl refl refl e, high (nat_lt 0 least && n == 0) (least == most) (least == n) (nat_lt n least) (nat_lt most n) refl refl refl refl refl e)
  where
    low : (a b c d f : Bool) → (nat_lt 0 least && n == 0) ≡ a → (least == most) ≡ b → (least == n) ≡ c → nat_lt n least ≡ d → nat_lt most n ≡ f
        → IsFaultless (cond a (kind.InvalidValue ∷ []) (cond b (cond c [] (kind.WrongNumberOfValues ∷ [])) (cond d (kind.TooFewValues ∷ []) (cond f (kind.TooManyValues ∷ []) []))))
        → nat_le least n ≡ true
    low true b c d f pa pb pc pd pf e = absurd (cc)
    low false true true d f pa pb pc pd pf e = grind (arith, nat_tests)
    low false true false d f pa pb pc pd pf e = absurd (cc)
    low false false c true f pa pb pc pd pf e = absurd (cc)
    low false false c false f pa pb pc pd pf e = grind (arith, nat_tests)

    high : (a b c d f : Bool) → (nat_lt 0 least && n == 0) ≡ a → (least == most) ≡ b → (least == n) ≡ c → nat_lt n least ≡ d → nat_lt most n ≡ f
        → IsFaultless (cond a (kind.InvalidValue ∷ []) (cond b (cond c [] (kind.WrongNumberOfValues ∷ [])) (cond d (kind.TooFewValues ∷ []) (cond f (kind.TooManyValues ∷ []) []))))
        → nat_le n most ≡ true
    high true b c d f pa pb pc pd pf e = absurd (cc)
    high false true true d f pa pb pc pd pf e = grind (arith, nat_tests)
    high false true false d f pa pb pc pd pf e = absurd (cc)
    high false false c true f pa pb pc pd pf e = absurd (cc)
    high false false c false true pa pb pc pd pf e = absurd (cc)
    high false false c false false pa pb pc pd pf e = grind (arith, nat_tests)

-- ---- one use of an argument

no_repeat : (has again : Bool) (k : ErrorKind) → IsFaultless (cond (has && not again) (k ∷ []) []) → (not has || again) ≡ true
no_repeat false again k e = refl
no_repeat true true k e = refl
no_repeat true false k e = absurd (cc)

set_taken : (again : Bool) (a : Rule) (values : List Text) (rows : List Row) → IsFaultless (set_fault again a values rows) → set_passes again a values rows ≡ true
set_taken again a values rows e =
    let parts = or_else-none (repeat_fault again a.id rows) _ e in
    all_of_two _ _ (no_repeat (has_row a.id rows) again kind.ArgumentConflict parts.0) (values_are_taken a.ignore_case (parser_of_value a.parser) values parts.1)

count_taken : (a : Rule) (values : List Text) (rows : List Row) → IsFaultless (count_fault a values rows) → count_passes a values rows ≡ true
count_taken a [] rows e = from_test (accepts a.ignore_case (parser_of_value a.parser) (count_text (min (count_of a.id rows + 1) 255))) (refused_kind (parser_of_value a.parser)) e
count_taken a (v ∷ vs) rows e = values_are_taken a.ignore_case (parser_of_value a.parser) (v ∷ vs) e

action_taken : (x : ArgAction) (again : Bool) (a : Rule) (values : List Text) (rows : List Row) → IsFaultless (action_fault x again a values rows) → action_passes x again a values rows ≡ true
action_taken action.Set again a values rows e = set_taken again a values rows e
action_taken action.SetTrue again a values rows e = set_taken again a values rows e
action_taken action.SetFalse again a values rows e = set_taken again a values rows e
action_taken action.Append again a values rows e = values_are_taken a.ignore_case (parser_of_value a.parser) values e
action_taken action.Count again a values rows e = count_taken a values rows e
action_taken action.Help again a values rows e = absurd (cc)
action_taken action.HelpShort again a values rows e = absurd (cc)
action_taken action.HelpLong again a values rows e = absurd (cc)
action_taken action.Version again a values rows e = absurd (cc)

use_taken : (again : Bool) (a : Rule) (values : List Text) (rows : List Row) → IsFaultless (use_fault again a values rows) → use_passes again a values rows ≡ true
use_taken again a values rows e =
    let parts = or_else-none (range_kinds (unwrap_or_range a.range).start_inclusive (most_values a) (length values)) _ e in
    let range = range_is_met (unwrap_or_range a.range).start_inclusive (most_values a) (length values) parts.0 in
    all_of_two _ _ range.0 (all_of_two _ _ range.1 (action_taken (action_of a) again a (values_or_missing a values) rows parts.1))

-- ---- the walk

module _ (c : List Rule) (again : Bool) where
  settle_taken : (h : Held) → IsFaultless (settle_fault c again h) → settle_passes c again h ≡ true
  settle_taken h = go h.pending
    where
      by_rule : (values : List Text) (o : Option Rule) → IsFaultless (option_map_or (λ a. use_fault again a values h.rows) o [])
          → option_map_or (λ a. use_passes again a values h.rows) o true ≡ true
      by_rule values None e = refl
      by_rule values (Some a) e = use_taken again a values h.rows e

      go : (p : Option (Text × List Text)) → IsFaultless (option_map_or (λ p. option_map_or (λ a. use_fault again a p.1 h.rows) (arg_by_id c p.0) []) p [])
          → option_map_or (λ p. option_map_or (λ a. use_passes again a p.1 h.rows) (arg_by_id c p.0) true) p true ≡ true
      go None e = refl
      go (Some p) e = by_rule p.1 (arg_by_id c p.0) e

  react_taken : (a : Rule) (values : List Text) (h : Held) → IsFaultless (react_fault c again a values h) → react_passes c again a values h ≡ true
  react_taken a values h e =
      let parts = or_else-none (settle_fault c again h) _ e in
      all_of_two _ _ (settle_taken h parts.0) (use_taken again a values (settled c h).rows parts.1)

  option_taken : (a : Rule) (v : Option Text) (h : Held) → IsFaultless (option_fault c again a v h) → option_passes c again a v h ≡ true
  option_taken a (Some v) h e = react_taken a (v ∷ []) h e
  option_taken a None h e = settle_taken h e

  long_taken : (o : Option Rule) (v : Option Text) (h : Held) → IsFaultless (long_fault c again o v h) → long_passes c again o v h ≡ true
  long_taken None v h e = absurd (cc)
  long_taken (Some a) v h e = go (takes_values a) v e
    where
      go : (b : Bool) (v : Option Text) → IsFaultless (cond b (option_fault c again a v h) (cond (is_some v) (kind.TooManyValues ∷ []) (react_fault c again a [] h)))
          → cond b (option_passes c again a v h) (not (is_some v) && react_passes c again a [] h) ≡ true
      go true v e = option_taken a v h e
      go false None e = react_taken a [] h e
      go false (Some v) e = absurd (cc)

  short_taken : (o : Option Rule) (rest : Text) (h : Held) (faults : Held → Kinds) (passes : Held → Bool) → ((now : Held) → IsFaultless (faults now) → passes now ≡ true)
      → IsFaultless (short_fault c again o rest h faults) → short_passes c again o rest h passes ≡ true
  short_taken None rest h faults passes next e = absurd (cc)
  short_taken (Some a) rest h faults passes next e = go (takes_values a) e
    where
      go : (b : Bool) → IsFaultless (cond b (option_fault c again a (attached_value rest) h) (or_else (react_fault c again a [] h) (faults (reacted c a [] h))))
          → cond b (option_passes c again a (attached_value rest) h) (react_passes c again a [] h && passes (reacted c a [] h)) ≡ true
      go true e = option_taken a (attached_value rest) h e
      go false e =
          let parts = or_else-none (react_fault c again a [] h) _ e in
          all_of_two _ _ (react_taken a [] h parts.0) (next (reacted c a [] h) parts.1)

  step_of_bundle : (x : Option ℕ) (flags : Text) (skip : ℕ) (h : Held) (faults : Text → ℕ → Held → Kinds) (passes : Text → ℕ → Held → Bool)
      → ((rest : Text) (n : ℕ) (now : Held) → IsFaultless (faults rest n now) → passes rest n now ≡ true)
      → IsFaultless (bundle_step_fault c again x flags skip h faults) → bundle_step_passes c again x flags skip h passes ≡ true
  step_of_bundle None flags skip h faults passes next e = refl
  step_of_bundle (Some x) flags zero h faults passes next e =
      let rest = drop (length (encode_utf8 x)) flags in
      short_taken (arg_by_short c x) rest h (faults rest 0) (passes rest 0) (next rest 0) e
  step_of_bundle (Some x) flags (suc skip) h faults passes next e = next (drop (length (encode_utf8 x)) flags) skip h e

  flags_taken : (k : ℕ) (flags : Text) (skip : ℕ) (h : Held) → IsFaultless (flags_fault c again k flags skip h) → flags_pass c again k flags skip h ≡ true
  unfolding flags_fault flags_pass
  flags_taken zero flags skip h e = refl
  flags_taken (suc k) flags skip h e =
      step_of_bundle (slice_get (chars flags) 0) flags skip h (flags_fault c again k) (flags_pass c again k) (flags_taken k) e

  flag_word_taken : (p : Option (Text × Option Text)) (word : Text) (h : Held) → IsFaultless (flag_word_fault c again p word h) → flag_word_passes c again p word h ≡ true
  flag_word_taken (Some p) word h e = long_taken (arg_by_long c p.0) p.1 h e
  flag_word_taken None word h e = go (short_of word) e
    where
      go : (o : Option Text) → IsFaultless (option_map_or (λ flags. bundle_fault c again flags h) o []) → option_map_or (λ flags. bundle_passes c again flags h) o true ≡ true
      go None e = refl
      go (Some flags) e = flags_taken (length flags) flags h.skip (record h { skip = 0 }) e

module _ (s : Shape) (names : Names) where
  other_taken : (o : Option Text) (word : Text) (h : Held) → IsFaultless (other_fault s o word h) → other_passes s o word h ≡ true
  other_taken (Some name) word h e = go (bytes_eq name (codes "help")) s.disable_help_subcommand e
    where
      go : (is_help disabled : Bool) → IsFaultless (cond (is_help && not disabled) (kind.DisplayHelp ∷ kind.InvalidSubcommand ∷ []) []) → (not is_help || disabled) ≡ true
      go false disabled e = refl
      go true true e = refl
      go true false e = absurd (cc)
  other_taken None word h e = go (bytes_eq word (45 ∷ 45 ∷ [])) e
    where
      go : (is_end : Bool) → IsFaultless (cond is_end [] (flag_word_fault s.rules s.args_override_self (long_of word) word h))
          → (is_end || flag_word_passes s.rules s.args_override_self (long_of word) word h) ≡ true
      go true e = refl
      go false e = flag_word_taken s.rules s.args_override_self (long_of word) word h e

  word_taken : (is_trailing : Bool) (waiting : Waiting) (word : Text) (h : Held) → IsFaultless (word_fault s names is_trailing waiting word h) → word_passes s names is_trailing waiting word h ≡ true
  word_taken true waiting word h e = refl
  word_taken false waiting word h e = other_taken (subcommand_met names waiting word) word h e

  positional_taken : (a : Rule) (h : Held) → IsFaultless (positional_fault s.rules s.args_override_self a h) → positional_passes s.rules s.args_override_self a h ≡ true
  positional_taken a h e = go (is_pending a h.pending && takes_several a) e
    where
      go : (b : Bool) → IsFaultless (cond b [] (settle_fault s.rules s.args_override_self h)) → (b || settle_passes s.rules s.args_override_self h) ≡ true
      go true e = refl
      go false e = settle_taken s.rules s.args_override_self h e

  no_stray : (leaf : Bool) → IsFaultless (cond leaf (kind.UnknownArgument ∷ []) (kind.UnknownArgument ∷ kind.InvalidSubcommand ∷ [])) → ⊥
  no_stray true e = absurd (cc)
  no_stray false e = absurd (cc)

  step_taken : (position : ℕ) (h : Held) (step : Step) → IsFaultless (step_fault s position h step) → step_passes s position h step ≡ true
  step_taken position h walk_words.value e = go (arg_by_index s.rules position) e
    where
      go : (o : Option Rule) → IsFaultless (option_map_or (λ a. positional_fault s.rules s.args_override_self a h) o (stray_fault s))
          → option_map_or (λ a. positional_passes s.rules s.args_override_self a h) o false ≡ true
      go None e = absurd (no_stray s.is_leaf e)
      go (Some a) e = positional_taken a h e
  step_taken position h (walk_words.next waiting) e = refl
  step_taken position h (walk_words.trailing n) e = refl
  step_taken position h (walk_words.subcommand name) e = refl

  turn_taken : (w : Walk) (word : Text) → IsFaultless (turn_fault s names w word) → turn_passes s names w word ≡ true
  turn_taken w word e = go (is_some w.stopped) e
    where
      met : Held × Step
      met = word_met s.rules names w.is_trailing w.waiting w.position word w.held

      go : (stopped : Bool) → IsFaultless (cond stopped [] (or_else (word_fault s names w.is_trailing w.waiting word w.held) (step_fault s w.position met.0 met.1)))
          → (stopped || (word_passes s names w.is_trailing w.waiting word w.held && step_passes s w.position met.0 met.1)) ≡ true
      go true e = refl
      go false e =
          let parts = or_else-none (word_fault s names w.is_trailing w.waiting word w.held) _ e in
          all_of_two _ _ (word_taken w.is_trailing w.waiting word w.held parts.0) (step_taken w.position met.0 met.1 parts.1)

  walk_taken : (w : Walk) (words : List Text) → IsFaultless (walk_fault s names w words) → walk_passes s names w words ≡ true
  unfolding walk_fault walk_passes
  walk_taken w [] e = refl
  walk_taken w (word ∷ rest) e =
      let parts = or_else-none (turn_fault s names w word) _ e in
      all_of_two _ _ (turn_taken w word parts.0) (walk_taken (walked s.rules names w word) rest parts.1)

-- ---- after the walk

checks_taken : (a b d : Bool) → IsFaultless (check_kinds a b d) → (a ≡ false) × (b ≡ false) × (d ≡ false)
checks_taken true b d e = absurd (cc)
checks_taken false true d e = absurd (cc)
checks_taken false false true e = absurd (cc)
checks_taken false false false e = (refl, refl, refl)

help_not_wanted : (has help any : Bool) → (not has && (help && not any)) ≡ false → (not help || (has || any)) ≡ true
help_not_wanted has false any e = refl
help_not_wanted true true any e = refl
help_not_wanted false true true e = refl
help_not_wanted false true false e = absurd (cc)

subcommand_not_wanted : (has required : Bool) → (not has && required) ≡ false → (not required || has) ≡ true
subcommand_not_wanted has false e = refl
subcommand_not_wanted true true e = refl
subcommand_not_wanted false true e = absurd (cc)

all_given : (rows : List Row) (rules : List Rule) → list_any (λ (a : Rule). a.required && not (is_given a.id rows)) rules ≡ false
    → list_all (λ (a : Rule). not a.required || is_given a.id rows) rules ≡ true
all_given rows [] e = refl
all_given rows (a ∷ rest) e = go a.required (is_given a.id rows) (all_given rows rest) e
  where
    go : (required is_there : Bool) → (list_any (λ (a : Rule). a.required && not (is_given a.id rows)) rest ≡ false → list_all (λ (a : Rule). not a.required || is_given a.id rows) rest ≡ true)
        → ((required && not is_there) || list_any (λ (a : Rule). a.required && not (is_given a.id rows)) rest) ≡ false
        → ((not required || is_there) && list_all (λ (a : Rule). not a.required || is_given a.id rows) rest) ≡ true
    go false is_there others e = others e
    go true true others e = others e
    go true false others e = absurd (cc)

arguments_not_wanted : (negated : Bool) (rows : List Row) (rules : List Rule) → (not negated && list_any (λ (a : Rule). a.required && not (is_given a.id rows)) rules) ≡ false
    → (negated || list_all (λ (a : Rule). not a.required || is_given a.id rows) rules) ≡ true
arguments_not_wanted true rows rules e = refl
arguments_not_wanted false rows rules e = all_given rows rules e

-- the level's own defaults pass, and its arguments have no rule on one another
abbrev pub is_open : Shape → Bool
is_open s = list_all default_passes s.rules && has_free_rules s

valid_taken : (s : Shape) (rows : List Row) (has : Bool) → has_free_rules s ≡ true → IsFaultless (check_fault s rows has) → is_valid s rows has ≡ true
valid_taken s rows has free e =
    let parts = checks_taken (not has && (s.arg_required_else_help && not (list_any (λ (r : Row). explicit_source r.source) rows))) (not has && s.subcommand_required)
    (not (s.subcommand_negates_reqs && has) && list_any (λ (a : Rule). a.required && not (is_given a.id rows)) s.rules) e in
    all_of_two _ _ (help_not_wanted has s.arg_required_else_help (list_any (λ (r : Row). explicit_source r.source) rows) parts.0)
    (all_of_two _ _ (subcommand_not_wanted has s.subcommand_required parts.1)
    (all_of_two _ _ free (arguments_not_wanted (s.subcommand_negates_reqs && has) rows s.rules parts.2)))

pub both : (a b : Bool) → (a && b) ≡ true → (a ≡ true) × (b ≡ true)
both true b e = (refl, e)
both false b e = absurd (cc)

level_taken : (s : Shape) (names : Names) (h : Held) (words : List Text) (has : Bool) (below : Kinds) → is_open s ≡ true → IsFaultless (level_fault s names h words has below)
    → IsFaultless below × (level_passes s names h words has ≡ true)
level_taken s names h words has below open_level e =
    let end = (walk s.rules names h words).held in
    let first = or_else-none (walk_fault s names (walk_from h) words) _ e in
    let second = or_else-none below _ first.1 in
    let third = or_else-none (settle_fault s.rules s.args_override_self end) _ second.1 in
    let fourth = or_else-none (Rattle.clap.specs.Faults.defaults_fault (settled s.rules end).rows s.rules) _ third.1 in
    let is = both (list_all default_passes s.rules) (has_free_rules s) open_level in (
      second.0,
      all_of_two _ _ (walk_taken s names (walk_from h) words first.0)
          (all_of_two _ _ (settle_taken s.rules s.args_override_self end third.0)
          (all_of_two _ _ is.0 (valid_taken s (finished s.rules end) has is.1 fourth.1))),
    )

pub some_is : {X : Type 0} {x y : X} → Some x ≡ Some y → x ≡ y
some_is e = cc

-- a subcommand that was found is one of those
found_open : (p : Shape → Bool) (subs : List Shape) (s : Shape) → list_all is_open subs ≡ true → find p subs ≡ Some s → is_open s ≡ true
found_open p [] s opens e = absurd (cc)
found_open p (x ∷ xs) s opens e = go (p x) (found_open p xs s (both (is_open x) (list_all is_open xs) opens).1) e
  where
    go : (b : Bool) → (find p xs ≡ Some s → is_open s ≡ true) → cond b (Some x) (find p xs) ≡ Some s → is_open s ≡ true
    go true later e = subst (λ (y : Shape). is_open y ≡ true) (some_is e) (both (is_open x) (list_all is_open xs) opens).0
    go false later e = later e

entered_taken : (a : App) (stop : Option (Text × List Text)) → list_all is_open a.subs ≡ true → IsFaultless (entered_fault a stop) → entered_passes a stop ≡ true
entered_taken a None opens e = refl
entered_taken a (Some p) opens e = go (find (λ s. answers_to p.0 (label_of s)) a.subs) refl e
  where
    go : (o : Option Shape) → find (λ s. answers_to p.0 (label_of s)) a.subs ≡ o → IsFaultless (option_map_or (λ s. level_fault s [] nothing_held p.1 false []) o [])
        → option_map_or (λ s. level_passes s [] nothing_held p.1 false) o true ≡ true
    go None is e = refl
    go (Some s) is e = (level_taken s [] nothing_held p.1 false [] (found_open (λ s. answers_to p.0 (label_of s)) a.subs s opens is) e).1

-- a command of which no default fails, and whose arguments have no rule on one another, takes the words where no kind of error comes
pub built_taken : (a : App) (words : List Text) → is_open a.top ≡ true → list_all is_open a.subs ≡ true → IsFaultless (built_fault a nothing_held words) → built_takes a nothing_held words ≡ true
built_taken a words top subs e =
    let stop = (walk a.top.rules (names_of a) nothing_held words).stopped in
    let level = level_taken a.top (names_of a) nothing_held words (is_some (entered a stop)) (entered_fault a stop) top e in
    all_of_two _ _ (entered_taken a stop subs level.0) level.1
