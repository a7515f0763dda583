-- What a handle owns, and what a call makes of it.
use base.Fml.{Fml, feq}
use base.Stored.{Coded}
use denote.RawPtr.{Ptr, null_ptr}
use Rattle.std.specs.Coded.{coded_option}
use Rattle.std.specs.declared.option.Option.{Option}
use Rattle.std.specs.declared.option.Option.TheVariants.{None, Some}
use Rattle.std.specs.Box.Ownership.{box_owns}
use Rattle.std.specs.Global.{Global}
use Rattle.std_heap.specs.contracts.GlobalAllocator.TheImpl.{ghosts}
use Rattle.funnel_c.specs.contracts.index.Index.{the_row}

-- nothing where its pointer is null, and else the box of its index
abbrev pub handle_owns : Global → Ptr → Option the_row.Denot → Fml
handle_owns alloc ptr None = feq Ptr ptr null_ptr
handle_owns alloc ptr (Some index) = box_owns (ghosts.dealloc_token alloc) the_row ptr index

abbrev pub index_coded : Coded (Option the_row.Denot)
index_coded = coded_option the_row.coded
