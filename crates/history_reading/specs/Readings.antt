-- What the code keeps of both ends shows the reading.
use Rattle.history_reading.specs.declared.reading.Reading as kept
use Rattle.history_reading.specs.EndReadings.{end_view}
use Rattle.history_reading.specs.Reading.{Reading}

abbrev pub reading_view : kept.Reading → Reading
reading_view r = record { parent = end_view r.parent; child = end_view r.child; last = r.last; lines = r.lines }
