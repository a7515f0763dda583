-- Which subcommand words name that are taken: one of the command's own, and not `help`.
use Rattle.std.proofs.Common.{◌≡◌, ◌∙◌, ◌&&◌, ◌||◌, ℕ, Bool, cond, codes, true, false, not, refl, sym, ap, subst, List, [], ◌∷◌, Option, Some, None, IfSome, IsSome, is_some}
use Rattle.std.proofs.lemmas.Slice.Eq.{bytes_eq-Decides}
use Rattle.std.specs.Prelude.{find, option_and_then, option_map}
use Rattle.std.specs.List.{AllByRecursion, fold, list_all}
use Rattle.std.specs.Str.{bytes_eq}
use Rattle.clap.specs.Lexer.{long_of, short_of}
use Rattle.clap.specs.Walk.{Held, Names, Outcome, Rule, Step, Text, Waiting, Walk, after_flag, after_step, answers_to, arg_by_index, bundle, long_met, arg_by_long, long_or_other, nothing_held, plain_word, short_or_plain, subcommand_met, subcommand_or_other, to_positional, walk, walk_from, walked, walked_from, word_met}
use Rattle.clap.specs.Walk as walk_words
use Rattle.clap.specs.Simple.{Shape, argument_words, built, built_leaf, entered, help_shape, is_simple, label_of, names_of, rows_at, subcommand_of}
use Rattle.clap.specs.Takes.{default_passes, entered_passes, other_passes, settle_passes, step_passes, takes, turn_passes, walk_passes, word_passes}
use Rattle.command_line.specs.Commands.{call_words, command_of, funnel_app, subcommand_as}
use Rattle.command_line.proofs.Faultless.{both}
use Rattle.command_line.proofs.FoundValues.{found_has}
use Rattle.command_line.proofs.TakenWords.{command_is, no_command}

-- the word is no call for help
abbrev IsNoHelp : Text → Type 0
IsNoHelp name = bytes_eq name (codes "help") ≡ false

abbrev NamesNoHelp : Step → Type 0
NamesNoHelp (walk_words.subcommand name) = IsNoHelp name
NamesNoHelp _ = Unit {0}

abbrev StopsAtNoHelp : Walk → Type 0
StopsAtNoHelp w = IfSome w.stopped (λ p. IsNoHelp p.0)

-- ---- the walk

module _ (c : List Rule) where
  plain_word-names : (waiting : Waiting) (word : Text) (h : Held) → NamesNoHelp (plain_word c waiting word h).1
  plain_word-names walk_words.idle word h = tt
  plain_word-names (walk_words.option id) word h = tt
  plain_word-names walk_words.positional word h = tt

  after_flag-names : (waiting : Waiting) (word : Text) (h : Held) (outcome : Outcome) → NamesNoHelp (after_flag c waiting word h outcome).1
  after_flag-names waiting word h walk_words.done = tt
  after_flag-names waiting word h (walk_words.waits id) = tt
  after_flag-names waiting word h walk_words.plain = plain_word-names waiting word h
  after_flag-names waiting word h walk_words.refused = plain_word-names waiting word h

  flag-names : (waiting : Waiting) (word : Text) (p : Option (Text × Option Text)) (h : Held) → NamesNoHelp (long_or_other c waiting word p h).1
  flag-names waiting word (Some p) h = after_flag-names waiting word (long_met c (arg_by_long c p.0) p.1 h).0 (long_met c (arg_by_long c p.0) p.1 h).1
  flag-names waiting word None h = go (short_of word)
    where
      go : (o : Option Text) → NamesNoHelp (short_or_plain c waiting word o h).1
      go None = plain_word-names waiting word h
      go (Some flags) = after_flag-names waiting word (bundle c flags h).0 (bundle c flags h).1

  positional-stops : (o : Option Rule) (word : Text) (w : Walk) (h : Held) → w.stopped ≡ None → StopsAtNoHelp (to_positional c o word w h)
  positional-stops None word w h none = subst (λ (o : Option (Text × List Text)). IfSome o (λ p. IsNoHelp p.0)) (sym none) tt
  positional-stops (Some a) word w h none = tt

  step-stops : (word : Text) (w : Walk) (h : Held) (step : Step) → w.stopped ≡ None → NamesNoHelp step → StopsAtNoHelp (after_step c word w h step)
  step-stops word w h (walk_words.next waiting) none names = subst (λ (o : Option (Text × List Text)). IfSome o (λ p. IsNoHelp p.0)) (sym none) tt
  step-stops word w h (walk_words.trailing position) none names = subst (λ (o : Option (Text × List Text)). IfSome o (λ p. IsNoHelp p.0)) (sym none) tt
  step-stops word w h (walk_words.subcommand name) none names = names
  step-stops word w h walk_words.value none names = positional-stops (arg_by_index c w.position) word w h none

module _ (s : Shape) (names : Names) (helps : s.disable_help_subcommand ≡ false) where
  met-names : (o : Option Text) (waiting : Waiting) (position : ℕ) (word : Text) (h : Held) → other_passes s o word h ≡ true → NamesNoHelp (subcommand_or_other s.rules o waiting position word h).1
  met-names (Some name) waiting position word h e = go (bytes_eq name (codes "help")) s.disable_help_subcommand helps e
    where
      go : (is_help disabled : Bool) → disabled ≡ false → (not is_help || disabled) ≡ true → is_help ≡ false
      go false disabled off e = refl
      go true true off e = absurd (cc)
      go true false off e = absurd (cc)
  met-names None waiting position word h e = go (bytes_eq word (45 ∷ 45 ∷ []))
    where
      go : (b : Bool) → NamesNoHelp (cond b (h, walk_words.trailing position) (long_or_other s.rules waiting word (long_of word) h)).1
      go true = tt
      go false = flag-names s.rules waiting word (long_of word) h

  word-names : (is_trailing : Bool) (waiting : Waiting) (position : ℕ) (word : Text) (h : Held) → word_passes s names is_trailing waiting word h ≡ true
      → NamesNoHelp (word_met s.rules names is_trailing waiting position word h).1
  word-names true waiting position word h e = tt
  word-names false waiting position word h e = met-names (subcommand_met names waiting word) waiting position word h e

  turn-stops : (w : Walk) (word : Text) → turn_passes s names w word ≡ true → StopsAtNoHelp w → StopsAtNoHelp (walked s.rules names w word)
  unfolding walked
  turn-stops w word e stops = go w.stopped refl e stops
    where
      met : Held × Step
      met = word_met s.rules names w.is_trailing w.waiting w.position word w.held

      go : (o : Option (Text × List Text)) → w.stopped ≡ o → (is_some o || (word_passes s names w.is_trailing w.waiting word w.held && step_passes s w.position met.0 met.1)) ≡ true
          → IfSome o (λ p. IsNoHelp p.0) → StopsAtNoHelp (walked_from s.rules names o w word)
      go (Some p) is e stops = stops
      go None is e stops = step-stops s.rules word w met.0 met.1 is (word-names w.is_trailing w.waiting w.position word w.held (both (word_passes s names w.is_trailing w.waiting word w.held) _ e).0)

  walk-stops : (w : Walk) (words : List Text) → walk_passes s names w words ≡ true → StopsAtNoHelp w → StopsAtNoHelp (fold (walked s.rules names) w words)
  unfolding walk_passes
  walk-stops w [] e stops = stops
  walk-stops w (word ∷ rest) e stops =
      let parts = both (turn_passes s names w word) _ e in
      walk-stops (walked s.rules names w word) rest parts.1 (turn-stops w word parts.0 stops)

-- ---- the subcommand

-- only the name `help` names the subcommand that building adds
no_help_met : (name : Text) → IsNoHelp name → answers_to name (label_of (built_leaf help_shape)) ≡ true → ⊥
no_help_met name no_help e = go (bytes_eq (codes "help") name) refl e
  where
    go : (b : Bool) → bytes_eq (codes "help") name ≡ b → (b || false) ≡ true → ⊥
    go true is e =
        let same : codes "help" ≡ name = (bytes_eq-Decides (codes "help") name).0 is in
        let is_help : bytes_eq name (codes "help") ≡ true = (bytes_eq-Decides name (codes "help")).1 (sym same) in
        cc
    go false is e = cc

abbrev IsCommand : Option (Text × List walk_words.Row) → Type 0
IsCommand found = IsSome (option_and_then subcommand_as found)

abbrev GivesCommand : Text → List Text → Shape → Type 0
GivesCommand name words s = answers_to name (label_of s) ≡ true → IsCommand (Some (rows_at s words))

all_give : (name : Text) (words : List Text) → IsNoHelp name → AllByRecursion (GivesCommand name words) (built funnel_app).subs
all_give name words no_help = (λ e. refl, (λ e. refl, (λ e. refl, (λ e. refl, (λ e. absurd (no_help_met name no_help e), tt)))))

found_command : (name : Text) (words : List Text) (s : Shape) → IsNoHelp name → find (λ s. answers_to name (label_of s)) (built funnel_app).subs ≡ Some s → IsCommand (Some (rows_at s words))
found_command name words s no_help is =
    let found = found_has (GivesCommand name words) (built funnel_app).subs (λ s. answers_to name (label_of s)) s (all_give name words no_help) is in
    found.1 found.0

entered_command : (stop : Option (Text × List Text)) → IfSome stop (λ p. IsNoHelp p.0) → is_some (entered (built funnel_app) stop) ≡ true → IsCommand (entered (built funnel_app) stop)
entered_command None no_help e = absurd (cc)
entered_command (Some p) no_help e = go (find (λ s. answers_to p.0 (label_of s)) (built funnel_app).subs) refl e
  where
    go : (o : Option Shape) → find (λ s. answers_to p.0 (label_of s)) (built funnel_app).subs ≡ o → is_some (option_map (λ s. rows_at s p.1) o) ≡ true → IsCommand (option_map (λ s. rows_at s p.1) o)
    go None is e = absurd (cc)
    go (Some s) is e = found_command p.0 p.1 s no_help is

taken_command : (words : List Text) → takes funnel_app words ≡ true → IsCommand (subcommand_of funnel_app words)
taken_command words e =
    let given = argument_words funnel_app words in
    let top = (built funnel_app).top in
    let names = names_of (built funnel_app) in
    let stop = (walk top.rules names nothing_held given).stopped in
    let has = is_some (entered (built funnel_app) stop) in
    let end = (walk top.rules names nothing_held given).held in
    let all = both (is_simple funnel_app) _ e in
    let level = both (entered_passes (built funnel_app) stop) _ all.1 in
    let walked = both (walk_passes top names (walk_from nothing_held) given) _ level.1 in
    let ends = both (settle_passes top.rules top.args_override_self end) _ walked.1 in
    let rest = both (list_all default_passes top.rules) _ ends.1 in
    let valid : (has && _) ≡ true = rest.1 in
    entered_command stop (walk-stops top names refl (walk_from nothing_held) given walked.0 tt) (both has _ valid).0

-- words are a command where they are taken, and nowhere else
pub command_where_taken : (words : List Text) → takes funnel_app (call_words words) ≡ true → IsSome (command_of words)
command_where_taken words e = subst IsSome (sym (command_is words e)) (taken_command (call_words words) e)

pub taken_where_command : (words : List Text) → IsSome (command_of words) → takes funnel_app (call_words words) ≡ true
taken_where_command words some = go (takes funnel_app (call_words words)) refl
  where
    go : (b : Bool) → takes funnel_app (call_words words) ≡ b → b ≡ true
    go true is = refl
    go false is = sym (ap is_some (no_command words is)) ∙ some
