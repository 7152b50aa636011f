-- What a call in place returns: a reply's numbers. Its state stays behind the reference.
use Rattle.border.specs.declared.Reply.{Reply}
use Rattle.gritgarland.specs.declared.Report.{Report}

abbrev pub report_of : Reply → Report
report_of r = record { code = r.code; running = r.running; value = r.value }
