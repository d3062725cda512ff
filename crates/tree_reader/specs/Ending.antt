-- What follows a type: the name of a parameter or a field, a semicolon, or the `>` of `UniquePtr`.
pub data Ending : Type 0 where
  Name : Ending
  Semicolon : Ending
  Greater : Ending
