use Rattle.std.proofs.Common.{◌≡◌, Bool, true, false, cond, refl}
use Rattle.serde_json.proofs.Views.{view-Object}
use Rattle.serde_json.specs.Data.{Members, no_members, object, put}
use Rattle.funnel_model.specs.declared.config.Config.{Config}
use Rattle.funnel_stats.specs.Keys.{name_of}
use Rattle.funnel_stats.specs.declared.key.Key.TheVariants.{Documents, MaxRank, Passes, Private, Reserve, Slices, Tail, Words}
use Rattle.fit.proofs.Writing.{is_left_out, members_by}
use Rattle.fit.specs.Texts.{members_of, members_of_words, whole}
use Rattle.fit.proofs.text.object_of.Goals as goal

-- the members before the key `private`
abbrev before_private : Config → Members
before_private config =
    put (name_of Passes) (whole config.passes) (put (name_of MaxRank) (whole config.max_rank) (put (name_of Documents) (whole config.documents) no_members))

-- the keys, put one after another
put_all : (left : Bool) (config : Config) → put (name_of Words) (object (members_of_words config.words))
    (put (name_of Tail) (whole config.tail) (put (name_of Slices) (whole config.slices) (put (name_of Reserve) (whole config.reserve)
    (cond left (before_private config) (put (name_of Private) (whole config.private) (before_private config)))))) ≡ members_by left config
put_all true config = refl
put_all false config = refl

pub returns : goal.returns
unfolding members_of
returns c =
    rw (
      c.in_ok-put_value.ensures,
      c.in_ok-put_number-6.ensures,
      c.in_ok-put_number-5.ensures,
      c.in_ok-put_number-4.ensures,
      c.in_ok-put_private.ensures,
      c.in_ok-put_number-3.ensures,
      c.in_ok-put_number-2.ensures,
      c.in_ok-put_number.ensures,
      c.new-object.ensures.empty,
      view-Object c.in_ok-words.words,
      c.in_ok-words.ensures,
      c.from.ensures,
      c.from-2.ensures,
      c.from-3.ensures,
      c.from-4.ensures,
      c.from-5.ensures,
    ) (put_all (is_left_out c.args.config.now) c.args.config.now)
