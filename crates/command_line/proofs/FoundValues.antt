-- What is found for options that take one value: a value that passed the option's parser.
use Rattle.std.proofs.Common.{◌≡◌, ◌∙◌, ◌&&◌, ◌||◌, ◌⊎◌, ◌<◌, ◌++◌, ℕ, Bool, cond, true, false, not, zero, suc, refl, sym, ap, subst, inl, inr, arith, List, [], ◌∷◌, length, drop, Option, Some, None, is_some, nat_le, ◌==◌}
use Rattle.std.proofs.lemmas.Bool.Decides.{nat_tests}
use Rattle.std.proofs.lemmas.Slice.Eq.{bytes_eq-Decides}
use Rattle.std.specs.Prelude.{encode_utf8, slice_get, find, option_and_then}
use Rattle.std.specs.List.{AllByRecursion, fold, list_all}
use Rattle.std.specs.Option.{option_map, option_map_or}
use Rattle.std.specs.Str.{bytes_eq, chars}
use Rattle.clap.specs.Lexer.{long_of, short_of}
use Rattle.clap.specs.Values.{is_request, read_as}
use Rattle.clap.specs.Facts.{explicit_source, unwrap_or_range}
use Rattle.clap.specs.Walk.{Held, Names, Outcome, Row, Rule, Step, Text, Waiting, Walk, action_of, after_flag, after_step, arg_by_id, arg_by_index, arg_by_long, arg_by_short, at_row, attached_value, bundle, bundle_met, bundle_step, default_rows, done, flag_met, has_row, is_pending, long_met, long_or_other, more_values, most_values, one_of, option_met, option_word, plain, plain_word, reacted, reading_by, row_text, settled, settled_rows, short_met, short_or_plain, subcommand_met, subcommand_or_other, takes_several, takes_values, to_positional, used, used_as, used_by_id, values_or_missing, walked, walked_from, with_default, with_values, without, word_met}
use Rattle.clap.specs.Walk as walk_words
use Rattle.clap.specs.Simple.{Shape}
use Rattle.clap.specs.Takes.{action_passes, bundle_passes, bundle_step_passes, default_passes, flag_word_passes, flags_pass, is_given, long_passes, option_passes, other_passes, positional_passes, react_passes, set_passes, settle_passes, short_passes, step_passes, turn_passes, use_passes, value_passes, values_pass, walk_passes, word_passes}
use Rattle.clap.specs.declared.builder.action.ArgAction.{ArgAction}
use Rattle.clap.specs.declared.builder.action.ArgAction.TheVariants.{Set, SetTrue}
use Rattle.clap.specs.declared.builder.action.ArgAction.TheVariants as action
use Rattle.clap.specs.declared.builder.value_parser.Reading.{Reading}
use Rattle.clap.specs.declared.parser.matches.ValueSource.{ValueSource}
use Rattle.clap.specs.declared.parser.matches.ValueSource.TheVariants.{CommandLine, DefaultValue}
use Rattle.command_line.proofs.Faultless.{both, some_is}

-- ---- options that take a value, and requests for help

-- each use sets one value or more, or the value that stands for none, or the option only asks for help
abbrev pub IsOption : Rule → Type 0
IsOption a = ((action_of a ≡ Set) × (0 < (unwrap_or_range a.range).start_inclusive))
    ⊎ ((action_of a ≡ SetTrue) × (0 < length a.missing)) ⊎ (is_request (action_of a) ≡ true)

-- the option is the one that its id names among c
pub record Belongs (c : List Rule) (a : Rule) : Type 0 where
  pub own : arg_by_id c a.id ≡ Some a
  pub kind : IsOption a

-- an option of c has values in the row, which passed its parser
pub record Fits (c : List Rule) (r : Row) : Type 0 where
  pub rule : Rule
  pub own : arg_by_id c r.id ≡ Some rule
  pub reading : r.reading ≡ reading_by rule
  pub some : 0 < length r.values
  pub pass : values_pass rule r.values ≡ true

abbrev pub AllFit : List Rule → List Row → Type 0
AllFit c rows = AllByRecursion (Fits c) rows

-- what each element has, the one that is found has
pub found_has : {X : Type 0} (P : X → Type 0) (all : List X) (p : X → Bool) (a : X) → AllByRecursion P all → find p all ≡ Some a → (p a ≡ true) × P a
found_has P [] p a h e = absurd (cc)
found_has {X} P (x ∷ xs) p a h e = go (p x) refl (found_has P xs p a h.1) e
  where
    go : (b : Bool) → p x ≡ b → (find p xs ≡ Some a → (p a ≡ true) × P a) → cond b (Some x) (find p xs) ≡ Some a → (p a ≡ true) × P a
    go true is later e = (ap p (sym (some_is e)) ∙ is, subst P (some_is e) h.0)
    go false is later e = later e

found_belongs : (c all : List Rule) (p : Rule → Bool) (a : Rule) → AllByRecursion (Belongs c) all → find p all ≡ Some a → Belongs c a
found_belongs c all p a h e = (found_has (Belongs c) all p a h e).1

-- ---- rows

each-append : (c : List Rule) (xs ys : List Row) → AllFit c xs → AllFit c ys → AllFit c (xs ++ ys)
each-append c [] ys h k = k
each-append c (x ∷ xs) ys h k = (h.0, each-append c xs ys h.1 k)

list_all-append : (p : Text → Bool) (xs ys : List Text) → list_all p xs ≡ true → list_all p ys ≡ true → list_all p (xs ++ ys) ≡ true
list_all-append p [] ys h k = k
list_all-append p (x ∷ xs) ys h k = go (p x) (list_all-append p xs ys) h
  where
    go : (b : Bool) → (list_all p xs ≡ true → list_all p ys ≡ true → list_all p (xs ++ ys) ≡ true) → (b && list_all p xs) ≡ true → (b && list_all p (xs ++ ys)) ≡ true
    go true later e = later e k
    go false later e = e

some-append : (xs ys : List Text) → 0 < length xs → 0 < length (xs ++ ys)
some-append [] ys h = absurd (omega arith)
some-append (x ∷ xs) ys h = omega arith

at_row-fits : (c : List Rule) (id : Text) (change : Row → List Row) (missing : List Row) → ((r : Row) → bytes_eq r.id id ≡ true → Fits c r → AllFit c (change r)) → AllFit c missing
    → (rows : List Row) → AllFit c rows → AllFit c (at_row id change missing rows)
at_row-fits c id change missing changes new [] h = new
at_row-fits c id change missing changes new (r ∷ rs) h = go (bytes_eq r.id id) refl (at_row-fits c id change missing changes new rs h.1)
  where
    go : (b : Bool) → bytes_eq r.id id ≡ b → AllFit c (at_row id change missing rs) → AllFit c (cond b (change r ++ rs) (r ∷ at_row id change missing rs))
    go true is later = each-append c (change r) rs (changes r is h.0) h.1
    go false is later = (h.0, later)

without-fits : (c : List Rule) (id : Text) (rows : List Row) → AllFit c rows → AllFit c (without id rows)
without-fits c id rows h = at_row-fits c id (λ _. []) [] (λ r is fit. tt) tt rows h

with_values-fits : (c : List Rule) (a : Rule) (s : ValueSource) (values : List Text) (rows : List Row) → arg_by_id c a.id ≡ Some a → 0 < length values → values_pass a values ≡ true
    → AllFit c rows → AllFit c (with_values a.id (reading_by a) s values rows)
with_values-fits c a s values rows own some pass h =
    at_row-fits c a.id (more_values s values) _ more (record { rule = a; own = own; reading = refl; some = some; pass = pass }, tt) rows h
  where
    more : (r : Row) → bytes_eq r.id a.id ≡ true → Fits c r → AllFit c (more_values s values r)
    more r is fit =
        let key : r.id ≡ a.id = (bytes_eq-Decides r.id a.id).0 is in
        let same : a ≡ fit.rule = some_is (sym own ∙ ap (arg_by_id c) (sym key) ∙ fit.own) in
        let these : values_pass fit.rule values ≡ true = subst (λ (x : Rule). values_pass x values ≡ true) same pass in (
          record {
            rule = fit.rule;
            own = fit.own;
            reading = fit.reading;
            some = some-append r.values values fit.some;
            pass = list_all-append (value_passes fit.rule) r.values values fit.pass these;
          },
          tt,
        )

-- ---- one use

given_values : (a : Rule) (values : List Text) → 0 < length values → values_or_missing a values ≡ values
given_values a [] some = absurd (omega arith)
given_values a (v ∷ vs) some = refl

no_request : (x : ArgAction) (again : Bool) (a : Rule) (values : List Text) (rows : List Row) → is_request x ≡ true → action_passes x again a values rows ≡ true → ⊥
no_request action.Set again a values rows is e = cc
no_request action.Append again a values rows is e = cc
no_request action.SetTrue again a values rows is e = cc
no_request action.SetFalse again a values rows is e = cc
no_request action.Count again a values rows is e = cc
no_request action.Help again a values rows is e = cc
no_request action.HelpShort again a values rows is e = cc
no_request action.HelpLong again a values rows is e = cc
no_request action.Version again a values rows is e = cc

used-fits : (c : List Rule) (again : Bool) (a : Rule) (values : List Text) (rows : List Row) → Belongs c a → use_passes again a values rows ≡ true → AllFit c rows → AllFit c (used a values rows)
used-fits c again a values rows belongs e h =
    let start = (unwrap_or_range a.range).start_inclusive in
    let first = both (nat_le start (length values)) _ e in
    let second = both (nat_le (length values) (most_values a)) _ first.1 in
    by_kind belongs.kind first.0 second.1
  where
    some_of : (n m : ℕ) → 0 < n → nat_le n m ≡ true → 0 < m
    some_of n m some least = grind (arith, nat_tests)

    some_or_missing : (given : List Text) → 0 < length a.missing → 0 < length (values_or_missing a given)
    some_or_missing [] some = some
    some_or_missing (v ∷ vs) some = omega arith

    flags : (x : ArgAction) → x ≡ SetTrue → 0 < length a.missing → action_passes x again a (values_or_missing a values) rows ≡ true
        → AllFit c (used_as x a.id (reading_by a) (values_or_missing a values) rows)
    flags x is some e =
        let these = values_or_missing a values in
        let passes : set_passes again a these rows ≡ true = (λ i. action_passes (sym is i) again a these rows) ∙ e in
        let pass = (both (not (has_row a.id rows) || again) _ passes).1 in
        let fits : AllFit c (used_as SetTrue a.id (reading_by a) these rows) =
        with_values-fits c a CommandLine these (without a.id rows) belongs.own (some_or_missing values some) pass (without-fits c a.id rows h) in
        subst (λ (y : ArgAction). AllFit c (used_as y a.id (reading_by a) these rows)) (sym is) fits

    sets : (x : ArgAction) → x ≡ Set → 0 < length values → action_passes x again a (values_or_missing a values) rows ≡ true → AllFit c (used_as x a.id (reading_by a) (values_or_missing a values) rows)
    sets x is some e =
        let passes : set_passes again a values rows ≡ true = (λ i. action_passes (sym is i) again a (sym (given_values a values some) i) rows) ∙ e in
        let pass = (both (not (has_row a.id rows) || again) _ passes).1 in
        let fits : AllFit c (used_as Set a.id (reading_by a) values rows) = with_values-fits c a CommandLine values (without a.id rows) belongs.own some pass (without-fits c a.id rows h) in
        subst (λ (y : ArgAction). AllFit c (used_as y a.id (reading_by a) (values_or_missing a values) rows)) (sym is)
        (subst (λ (vs : List Text). AllFit c (used_as Set a.id (reading_by a) vs rows)) (sym (given_values a values some)) fits)

    by_kind : IsOption a → nat_le (unwrap_or_range a.range).start_inclusive (length values) ≡ true
        → action_passes (action_of a) again a (values_or_missing a values) rows ≡ true → AllFit c (used a values rows)
    by_kind (inl set) least passes = sets (action_of a) set.0 (some_of (unwrap_or_range a.range).start_inclusive (length values) set.1 least) passes
    by_kind (inr (inl flag)) least passes = flags (action_of a) flag.0 flag.1 passes
    by_kind (inr (inr request)) least passes = absurd (no_request (action_of a) again a (values_or_missing a values) rows request passes)

-- ---- the walk

module _ (c : List Rule) (again : Bool) (all : AllByRecursion (Belongs c) c) where
  pub settled-fits : (h : Held) → settle_passes c again h ≡ true → AllFit c h.rows → AllFit c (settled c h).rows
  settled-fits h e fits = go h.pending e
    where
      by_rule : (id : Text) (values : List Text) (o : Option Rule) → arg_by_id c id ≡ o → option_map_or (λ a. use_passes again a values h.rows) o true ≡ true → AllFit c (used_by_id o values h.rows)
      by_rule id values None is e = fits
      by_rule id values (Some a) is e = used-fits c again a values h.rows (found_belongs c c (λ x. bytes_eq x.id id) a all is) e fits

      go : (p : Option (Text × List Text)) → option_map_or (λ p. option_map_or (λ a. use_passes again a p.1 h.rows) (arg_by_id c p.0) true) p true ≡ true
          → AllFit c (settled_rows c p h.rows)
      go None e = fits
      go (Some p) e = by_rule p.0 p.1 (arg_by_id c p.0) refl e

  reacted-fits : (a : Rule) (values : List Text) (h : Held) → Belongs c a → react_passes c again a values h ≡ true → AllFit c h.rows → AllFit c (reacted c a values h).rows
  reacted-fits a values h belongs e fits =
      let parts = both (settle_passes c again h) _ e in
      used-fits c again a values (settled c h).rows belongs parts.1 (settled-fits h parts.0 fits)

  option-fits : (a : Rule) (v : Option Text) (h : Held) → Belongs c a → option_passes c again a v h ≡ true → AllFit c h.rows → AllFit c (option_met c a v h).0.rows
  option-fits a (Some v) h belongs e fits = reacted-fits a (v ∷ []) h belongs e fits
  option-fits a None h belongs e fits = settled-fits h e fits

  long-fits : (o : Option Rule) (v : Option Text) (h : Held) → ((a : Rule) → o ≡ Some a → Belongs c a) → long_passes c again o v h ≡ true → AllFit c h.rows → AllFit c (long_met c o v h).0.rows
  long-fits None v h belongs e fits = fits
  long-fits (Some a) v h belongs e fits = go (takes_values a) v e
    where
      go : (b : Bool) (v : Option Text) → cond b (option_passes c again a v h) (not (is_some v) && react_passes c again a [] h) ≡ true
          → AllFit c (cond b (option_met c a v h) (flag_met c a v h)).0.rows
      go true v e = option-fits a v h (belongs a refl) e fits
      go false None e = reacted-fits a [] h (belongs a refl) e fits
      go false (Some v) e = fits

  short-fits : (o : Option Rule) (rest : Text) (h : Held) (passes : Held → Bool) (met : Held → Held × Outcome) → ((a : Rule) → o ≡ Some a → Belongs c a)
      → ((now : Held) → passes now ≡ true → AllFit c now.rows → AllFit c (met now).0.rows)
      → short_passes c again o rest h passes ≡ true → AllFit c h.rows → AllFit c (short_met c o rest h met).0.rows
  short-fits None rest h passes met belongs next e fits = fits
  short-fits (Some a) rest h passes met belongs next e fits = go (takes_values a) e
    where
      go : (b : Bool) → cond b (option_passes c again a (attached_value rest) h) (react_passes c again a [] h && passes (reacted c a [] h)) ≡ true
          → AllFit c (cond b (option_met c a (attached_value rest) h) (met (reacted c a [] h))).0.rows
      go true e = option-fits a (attached_value rest) h (belongs a refl) e fits
      go false e =
          let parts = both (react_passes c again a [] h) _ e in
          next (reacted c a [] h) parts.1 (reacted-fits a [] h (belongs a refl) parts.0 fits)

  bundle_step-fits : (x : Option ℕ) (flags : Text) (skip : ℕ) (so_far : Outcome) (h : Held) (passes : Text → ℕ → Held → Bool) (met : Text → ℕ → Outcome → Held → Held × Outcome)
      → ((rest : Text) (n : ℕ) (outcome : Outcome) (now : Held) → passes rest n now ≡ true → AllFit c now.rows → AllFit c (met rest n outcome now).0.rows)
      → bundle_step_passes c again x flags skip h passes ≡ true → AllFit c h.rows → AllFit c (bundle_step c x flags skip so_far h met).0.rows
  bundle_step-fits None flags skip so_far h passes met next e fits = fits
  bundle_step-fits (Some x) flags zero so_far h passes met next e fits =
      let rest = drop (length (encode_utf8 x)) flags in
      short-fits (arg_by_short c x) rest h (passes rest 0) (met rest 0 done) (λ a is. found_belongs c c _ a all is) (next rest 0 done) e fits
  bundle_step-fits (Some x) flags (suc skip) so_far h passes met next e fits = next (drop (length (encode_utf8 x)) flags) skip so_far h e fits

  bundle-fits : (k : ℕ) (flags : Text) (skip : ℕ) (so_far : Outcome) (h : Held) → flags_pass c again k flags skip h ≡ true → AllFit c h.rows → AllFit c (bundle_met c k flags skip so_far h).0.rows
  unfolding bundle_met flags_pass
  bundle-fits zero flags skip so_far h e fits = fits
  bundle-fits (suc k) flags skip so_far h e fits =
      bundle_step-fits (slice_get (chars flags) 0) flags skip so_far h (flags_pass c again k) (bundle_met c k) (bundle-fits k) e fits

  option_word-rows : (o : Option Rule) (id word : Text) (h : Held) → (option_word o id word h).0.rows ≡ h.rows
  option_word-rows None id word h = refl
  option_word-rows (Some a) id word h = refl

  plain_word-rows : (waiting : Waiting) (word : Text) (h : Held) → (plain_word c waiting word h).0.rows ≡ h.rows
  plain_word-rows walk_words.idle word h = refl
  plain_word-rows (walk_words.option id) word h = option_word-rows (arg_by_id c id) id word h
  plain_word-rows walk_words.positional word h = refl

  after_flag-rows : (waiting : Waiting) (word : Text) (h : Held) (outcome : Outcome) → (after_flag c waiting word h outcome).0.rows ≡ h.rows
  after_flag-rows waiting word h walk_words.done = refl
  after_flag-rows waiting word h (walk_words.waits id) = refl
  after_flag-rows waiting word h walk_words.plain = plain_word-rows waiting word h
  after_flag-rows waiting word h walk_words.refused = plain_word-rows waiting word h

  after-fits : (waiting : Waiting) (word : Text) (h : Held) (outcome : Outcome) → AllFit c h.rows → AllFit c (after_flag c waiting word h outcome).0.rows
  after-fits waiting word h outcome fits = subst (AllFit c) (sym (after_flag-rows waiting word h outcome)) fits

  flag_word-fits : (p : Option (Text × Option Text)) (waiting : Waiting) (word : Text) (h : Held) → flag_word_passes c again p word h ≡ true → AllFit c h.rows → AllFit c (long_or_other c waiting word p h).0.rows
  flag_word-fits (Some p) waiting word h e fits =
      after-fits waiting word (long_met c (arg_by_long c p.0) p.1 h).0 (long_met c (arg_by_long c p.0) p.1 h).1
      (long-fits (arg_by_long c p.0) p.1 h (λ a is. found_belongs c c _ a all is) e fits)
  flag_word-fits None waiting word h e fits = go (short_of word) e
    where
      go : (o : Option Text) → option_map_or (λ flags. bundle_passes c again flags h) o true ≡ true → AllFit c (short_or_plain c waiting word o h).0.rows
      go None e = subst (AllFit c) (sym (plain_word-rows waiting word h)) fits
      go (Some flags) e =
          after-fits waiting word (bundle c flags h).0 (bundle c flags h).1 (bundle-fits (length flags) flags h.skip plain (record h { skip = 0 }) e fits)

module _ (s : Shape) (names : Names) (all : AllByRecursion (Belongs s.rules) s.rules) where
  other-fits : (o : Option Text) (waiting : Waiting) (position : ℕ) (word : Text) (h : Held) → other_passes s o word h ≡ true → AllFit s.rules h.rows
      → AllFit s.rules (subcommand_or_other s.rules o waiting position word h).0.rows
  other-fits (Some name) waiting position word h e fits = fits
  other-fits None waiting position word h e fits = go (bytes_eq word (45 ∷ 45 ∷ [])) e
    where
      go : (b : Bool) → (b || flag_word_passes s.rules s.args_override_self (long_of word) word h) ≡ true
          → AllFit s.rules (cond b (h, walk_words.trailing position) (long_or_other s.rules waiting word (long_of word) h)).0.rows
      go true e = fits
      go false e = flag_word-fits s.rules s.args_override_self all (long_of word) waiting word h e fits

  word-fits : (is_trailing : Bool) (waiting : Waiting) (position : ℕ) (word : Text) (h : Held) → word_passes s names is_trailing waiting word h ≡ true → AllFit s.rules h.rows
      → AllFit s.rules (word_met s.rules names is_trailing waiting position word h).0.rows
  word-fits true waiting position word h e fits = fits
  word-fits false waiting position word h e fits = other-fits (subcommand_met names waiting word) waiting position word h e fits

  positional-fits : (o : Option Rule) (word : Text) (w : Walk) (h : Held) → option_map_or (λ a. positional_passes s.rules s.args_override_self a h) o false ≡ true → AllFit s.rules h.rows
      → AllFit s.rules (to_positional s.rules o word w h).held.rows
  positional-fits None word w h e fits = fits
  positional-fits (Some a) word w h e fits = go (is_pending a h.pending && takes_several a) e
    where
      go : (b : Bool) → (b || settle_passes s.rules s.args_override_self h) ≡ true → AllFit s.rules (cond b h (settled s.rules h)).rows
      go true e = fits
      go false e = settled-fits s.rules s.args_override_self all h e fits

  step-fits : (word : Text) (w : Walk) (h : Held) (step : Step) → step_passes s w.position h step ≡ true → AllFit s.rules h.rows → AllFit s.rules (after_step s.rules word w h step).held.rows
  step-fits word w h (walk_words.next waiting) e fits = fits
  step-fits word w h (walk_words.trailing position) e fits = fits
  step-fits word w h (walk_words.subcommand name) e fits = fits
  step-fits word w h walk_words.value e fits = positional-fits (arg_by_index s.rules w.position) word w h e fits

  turn-fits : (w : Walk) (word : Text) → turn_passes s names w word ≡ true → AllFit s.rules w.held.rows → AllFit s.rules (walked s.rules names w word).held.rows
  unfolding walked
  turn-fits w word e fits = go w.stopped e
    where
      met : Held × Step
      met = word_met s.rules names w.is_trailing w.waiting w.position word w.held

      go : (o : Option (Text × List Text)) → (is_some o || (word_passes s names w.is_trailing w.waiting word w.held && step_passes s w.position met.0 met.1)) ≡ true
          → AllFit s.rules (walked_from s.rules names o w word).held.rows
      go (Some p) e = fits
      go None e =
          let parts = both (word_passes s names w.is_trailing w.waiting word w.held) _ e in
          step-fits word w met.0 met.1 parts.1 (word-fits w.is_trailing w.waiting w.position word w.held parts.0 fits)

  pub walk-fits : (w : Walk) (words : List Text) → walk_passes s names w words ≡ true → AllFit s.rules w.held.rows → AllFit s.rules (fold (walked s.rules names) w words).held.rows
  unfolding walk_passes
  walk-fits w [] e fits = fits
  walk-fits w (word ∷ rest) e fits =
      let parts = both (turn_passes s names w word) _ e in
      walk-fits (walked s.rules names w word) rest parts.1 (turn-fits w word parts.0 fits)

-- ---- defaults

suc_is_some : (n : ℕ) → (suc n == 0) ≡ false
suc_is_some n = grind (arith, nat_tests)

default-fits : (c : List Rule) (a : Rule) (rows : List Row) → Belongs c a → default_passes a ≡ true → AllFit c rows → AllFit c (with_default rows a)
default-fits c a rows belongs e fits = go (has_row a.id rows)
  where
    by_values : (values : List Text) → (walk_words.is_empty values || (not (is_request (action_of a)) && values_pass a values)) ≡ true → AllFit c (default_rows a.id (reading_by a) values rows)
    by_values [] e = fits
    by_values (v ∷ vs) e =
        let passes = subst (λ (b : Bool). (b || (not (is_request (action_of a)) && values_pass a (v ∷ vs))) ≡ true) (suc_is_some (length vs)) e in
        with_values-fits c a DefaultValue (v ∷ vs) rows belongs.own (omega arith) (both (not (is_request (action_of a))) _ passes).1 fits

    go : (b : Bool) → AllFit c (cond b rows (default_rows a.id (reading_by a) a.defaults rows))
    go true = fits
    go false = by_values a.defaults e

pub defaults-fit : (c rules : List Rule) (rows : List Row) → AllByRecursion (Belongs c) rules → list_all default_passes rules ≡ true → AllFit c rows → AllFit c (fold with_default rows rules)
defaults-fit c [] rows all e fits = fits
defaults-fit c (a ∷ rest) rows all e fits =
    let parts = both (default_passes a) _ e in
    defaults-fit c rest (with_default rows a) all.1 parts.1 (default-fits c a rows all.0 parts.0 fits)

-- ---- rows that are there

or_true : (a b : Bool) → b ≡ true → (a || b) ≡ true
or_true true b e = refl
or_true false b e = e

with_values-there : (id : Text) (how : Reading) (s : ValueSource) (values : List Text) (rows : List Row) → has_row id (with_values id how s values rows) ≡ true
with_values-there id how s values [] = ap (λ b. b || false) ((bytes_eq-Decides id id).1 refl)
with_values-there id how s values (r ∷ rs) = go (bytes_eq r.id id) refl (with_values-there id how s values rs)
  where
    go : (b : Bool) → bytes_eq r.id id ≡ b → has_row id (with_values id how s values rs) ≡ true
        → has_row id (cond b (more_values s values r ++ rs) (r ∷ with_values id how s values rs)) ≡ true
    go true is later = ap (λ b. b || has_row id rs) is
    go false is later = or_true _ _ later

with_values-keeps : (id other : Text) (how : Reading) (s : ValueSource) (values : List Text) (rows : List Row) → has_row id rows ≡ true → has_row id (with_values other how s values rows) ≡ true
with_values-keeps id other how s values [] e = absurd (cc)
with_values-keeps id other how s values (r ∷ rs) e = go (bytes_eq r.id other) (bytes_eq r.id id) refl (with_values-keeps id other how s values rs) e
  where
    go : (b here : Bool) → bytes_eq r.id id ≡ here → (has_row id rs ≡ true → has_row id (with_values other how s values rs) ≡ true) → (here || has_row id rs) ≡ true
        → has_row id (cond b (more_values s values r ++ rs) (r ∷ with_values other how s values rs)) ≡ true
    go true here is later e = ap (λ b. b || has_row id rs) is ∙ e
    go false true is later e = ap (λ b. b || has_row id (with_values other how s values rs)) is
    go false false is later e = or_true _ _ (later e)

-- an option keeps its row where others get their defaults
default-keeps : (id : Text) (rows : List Row) (a : Rule) → has_row id rows ≡ true → has_row id (with_default rows a) ≡ true
default-keeps id rows a e = go (has_row a.id rows) a.defaults
  where
    go : (b : Bool) (values : List Text) → has_row id (cond b rows (default_rows a.id (reading_by a) values rows)) ≡ true
    go true values = e
    go false [] = e
    go false (v ∷ vs) = with_values-keeps id a.id (reading_by a) DefaultValue (v ∷ vs) rows e

-- an option with a default has a row
default-there : (rows : List Row) (a : Rule) → 0 < length a.defaults → has_row a.id (with_default rows a) ≡ true
default-there rows a some = go (has_row a.id rows) refl a.defaults some
  where
    go : (b : Bool) → has_row a.id rows ≡ b → (values : List Text) → 0 < length values → has_row a.id (cond b rows (default_rows a.id (reading_by a) values rows)) ≡ true
    go true is values some = is
    go false is [] some = absurd (omega arith)
    go false is (v ∷ vs) some = with_values-there a.id (reading_by a) DefaultValue (v ∷ vs) rows

defaults-keep : (id : Text) (rules : List Rule) (rows : List Row) → has_row id rows ≡ true → has_row id (fold with_default rows rules) ≡ true
defaults-keep id [] rows e = e
defaults-keep id (a ∷ rest) rows e = defaults-keep id rest (with_default rows a) (default-keeps id rows a e)

-- and so it has among others
pub defaults-there : (before after : List Rule) (a : Rule) (rows : List Row) → 0 < length a.defaults → has_row a.id (fold with_default rows (before ++ a ∷ after)) ≡ true
defaults-there [] after a rows some = defaults-keep a.id after (with_default rows a) (default-there rows a some)
defaults-there (b ∷ before) after a rows some = defaults-there before after a (with_default rows b) some

-- an option that was given has a row
pub given-there : (id : Text) (rows : List Row) → is_given id rows ≡ true → has_row id rows ≡ true
given-there id [] e = absurd (cc)
given-there id (r ∷ rs) e = go (bytes_eq r.id id) (given-there id rs) e
  where
    go : (b : Bool) → (is_given id rs ≡ true → has_row id rs ≡ true) → option_map_or (λ (x : Row). explicit_source x.source) (cond b (Some r) (find (λ x. bytes_eq x.id id) rs)) false ≡ true
        → (b || has_row id rs) ≡ true
    go true later e = refl
    go false later e = later e

-- ---- reading

-- the first value of an option, as the typed getters read it, and that it passed
pub record HasValue (a : Rule) (id : Text) (rows : List Row) : Type 0 where
  pub value : Text
  pub reads : one_of id rows ≡ Some (read_as (reading_by a) value)
  pub pass : value_passes a value ≡ true

row_value : (c : List Rule) (a : Rule) (id : Text) (r : Row) → r.id ≡ id → Fits c r → arg_by_id c id ≡ Some a
    → (v : Text) × (row_text r ≡ Some (read_as (reading_by a) v)) × (value_passes a v ≡ true)
row_value c a id r key fit own = go r.values fit.some fit.pass
  where
    same : fit.rule ≡ a
    same = some_is (sym fit.own ∙ ap (arg_by_id c) key ∙ own)

    go : (values : List Text) → 0 < length values → values_pass fit.rule values ≡ true
        → (v : Text) × (option_map (read_as r.reading) (slice_get values 0) ≡ Some (read_as (reading_by a) v)) × (value_passes a v ≡ true)
    go [] some pass = absurd (omega arith)
    go (v ∷ vs) some pass = (
      v,
      ap (λ (how : Reading). Some (read_as how v)) (fit.reading ∙ ap reading_by same),
      subst (λ (x : Rule). value_passes x v ≡ true) same (both (value_passes fit.rule v) _ pass).0,
    )

-- an option that has a row has such a value
pub has_value : (c : List Rule) (a : Rule) (id : Text) (rows : List Row) → arg_by_id c id ≡ Some a → AllFit c rows → has_row id rows ≡ true → HasValue a id rows
has_value c a id [] own fits e = absurd (cc)
has_value c a id (r ∷ rs) own fits e = go (bytes_eq r.id id) refl (has_value c a id rs own fits.1) e
  where
    go : (b : Bool) → bytes_eq r.id id ≡ b → (has_row id rs ≡ true → HasValue a id rs) → (b || has_row id rs) ≡ true → HasValue a id (r ∷ rs)
    go true is later e =
        let got = row_value c a id r ((bytes_eq-Decides r.id id).0 is) fits.0 own in
        record { value = got.0; reads = ap (λ (b : Bool). option_and_then row_text (cond b (Some r) (find (λ x. bytes_eq x.id id) rs))) is ∙ got.1; pass = got.2 }
    go false is later e =
        let got = later e in
        record { value = got.value; reads = ap (λ (b : Bool). option_and_then row_text (cond b (Some r) (find (λ x. bytes_eq x.id id) rs))) is ∙ got.reads; pass = got.pass }
