-- How a program of funnel ends.
use Rattle.std.specs.Prelude.{ℕ}
use Rattle.fit.specs.declared.ends.FitEnd.{FitEnd}
use Rattle.fit.specs.declared.ends.FitEnd.TheVariants as fit_end
use Rattle.funnel_io.specs.declared.end.End.{End}
use Rattle.funnel_io.specs.declared.end.End.TheVariants as end_of
use Rattle.funnel_stats.specs.declared.fault.ConfigFault.{ConfigFault}
use Rattle.funnel_stats.specs.declared.fault.ConfigFault.TheVariants as config
use Rattle.funnel.specs.declared.ends.Misfit.TheVariants as misfit
use Rattle.funnel.specs.declared.ends.Why.{Why}
use Rattle.funnel.specs.declared.ends.Why.TheVariants as why_of

-- the exit status
abbrev pub exit_status_of : Why → ℕ
exit_status_of why_of.Done = 0
exit_status_of why_of.Usage = 1
exit_status_of (why_of.Config fault) = 2
exit_status_of why_of.ReadFault = 3
exit_status_of why_of.WriteFault = 4
exit_status_of why_of.Memory = 5
exit_status_of why_of.GateFault = 6
exit_status_of (why_of.NoThread worker) = 6
exit_status_of (why_of.ByteLimit count) = 7
exit_status_of (why_of.Misfit misfit) = 8

-- how it ends where its session ends so
abbrev pub why_of_end : End → Why
why_of_end end_of.Done = why_of.Done
why_of_end end_of.ReadFault = why_of.ReadFault
why_of_end end_of.WriteFault = why_of.WriteFault
why_of_end (end_of.ByteLimit count) = why_of.ByteLimit count
why_of_end end_of.Memory = why_of.Memory

-- how it ends where its fit ends so
abbrev pub why_of_fit : FitEnd → Why
why_of_fit fit_end.Done = why_of.Done
why_of_fit fit_end.ReadFault = why_of.ReadFault
why_of_fit fit_end.WriteFault = why_of.WriteFault
why_of_fit (fit_end.ByteLimit count) = why_of.ByteLimit count
why_of_fit fit_end.Memory = why_of.Memory
why_of_fit (fit_end.Misfit cause) = why_of.Misfit (misfit.Sample cause)

-- how it ends where its configuration is refused so
abbrev pub why_of_config : ConfigFault → Why
why_of_config config.ReadFault = why_of.ReadFault
why_of_config config.Memory = why_of.Memory
why_of_config fault = why_of.Config fault
