-- How a run ended.
use Rattle.std.specs.Prelude.{◌≡◌, [], Result, Ok, Err, IfOk, IfErr}
use Rattle.plinq_source.specs.declared.ending.Ending.{Ending}
use Rattle.plinq_source.specs.declared.ending.Ending.TheVariants.{End}
use Rattle.plinq_run.specs.declared.report.Report.{Report}
use Rattle.plinq_run.specs.declared.run_fault.RunFault.{RunFault}
use Rattle.plinq_run.specs.declared.run_fault.RunFault.TheVariants.{Cancelled}

-- how a run ended, without its records
abbrev pub reported_ending : Result Report RunFault → Result Ending RunFault
reported_ending (Ok report) = Ok report.ending
reported_ending (Err fault) = Err fault

module _ {K : Type 0} (s s' : K) (result : Result Report RunFault) where
  -- the run of a decided query: it ended well, its sink is as it was, and it has no records
  pub record RunsDecided : Type 0 where
    pub answered : reported_ending result ≡ Ok End
    pub untouched : s' ≡ s
    pub none : IfOk result (λ report. report.records.items ≡ [])

  -- the same where a token may have stopped it: it ended well or was cancelled
  pub record RunsDecidedWith : Type 0 where
    pub ended : IfOk result (λ report. report.ending ≡ End)
    pub cancelled : IfErr result (λ fault. fault ≡ Cancelled)
    pub untouched : s' ≡ s
    pub none : IfOk result (λ report. report.records.items ≡ [])
