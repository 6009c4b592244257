-- How playing a script ends.
use Rattle.portal_lines.specs.declared.lines.LineFault.{LineFault}
use Rattle.portal_lines.specs.declared.lines.LineFault.TheVariants.{Failed, TooMuch, EarlierFault}
use Rattle.portal_lines.specs.declared.lines.LineFault.TheVariants.{OutOfMemory as no_memory}
use Rattle.std.specs.Prelude.{ℕ}
use Rattle.portal_serve.specs.declared.calling.NoReply.{NoReply}
use Rattle.portal_serve.specs.declared.calling.NoReply.TheVariants as none
use Rattle.portal_serve.specs.declared.calls.CallStop.{CallStop}
use Rattle.portal_serve.specs.declared.calls.CallStop.TheVariants as call_stop
use Rattle.portal_serve.specs.declared.play.PlayEnd.{PlayEnd}
use Rattle.portal_serve.specs.declared.play.PlayEnd.TheVariants.{Done, ReadFault, WriteFault, KeeperFault, TooLong, OutOfMemory}

-- the stop of a call that has no reply
abbrev pub stop_without_reply : NoReply → CallStop
stop_without_reply none.KeeperFault = call_stop.KeeperFault
stop_without_reply none.OutOfMemory = call_stop.OutOfMemory

-- the end of playing, where processing a line stops
abbrev pub end_of_call : CallStop → PlayEnd
end_of_call call_stop.WriteFault = WriteFault
end_of_call call_stop.KeeperFault = KeeperFault
end_of_call call_stop.OutOfMemory = OutOfMemory

-- The end of playing, where the next line can't be read. Playing ends with the first fault, so none is an earlier one.
abbrev pub end_of_fault : LineFault → PlayEnd
end_of_fault Failed = ReadFault
end_of_fault TooMuch = TooLong
end_of_fault no_memory = OutOfMemory
end_of_fault EarlierFault = ReadFault

-- The limit of lines that were begun and not processed at this end. Output and the keeper can fail, and memory can run
-- out, within a line. Input ends, fails or exceeds its limit between two lines.
abbrev pub begun_limit : PlayEnd → ℕ
begun_limit Done = 0
begun_limit ReadFault = 0
begun_limit WriteFault = 1
begun_limit KeeperFault = 1
begun_limit TooLong = 0
begun_limit OutOfMemory = 1
