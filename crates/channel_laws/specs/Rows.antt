-- What the soundness of a schema implies for the rows of requests.
use Rattle.std.specs.Prelude.{◌≡◌, ℕ, ◌+◌, true, false, Some}
use Rattle.ipdl_base.specs.declared.kinds.Compress.TheVariants.{Plain}
use Rattle.ipdl_base.specs.declared.kinds.Level.TheVariants.{InsideSync}
use Rattle.ipdl_base.specs.declared.kinds.Side.TheVariants.{Parent}
use Rattle.ipdl_base.specs.declared.schema.Kind.TheVariants.{Delete}
use Rattle.ipdl_base.specs.declared.schema.MessageRow.{MessageRow}
use Rattle.ipdl_base.specs.declared.schema.Schema.{Schema}
use Rattle.ipdl_base.specs.Sound.{has_reply, message_of}
use Rattle.ipdl_base.specs.Sides.{sends}
use Rattle.channel_model.specs.Numbers.{is_sync_row, request_row}
use Rattle.channel_laws.specs.SyncCalls.{is_sync_number, level_of}

-- The row of the request of a number: it has that number, with the sync and level that the schema has for it; where
-- it has a reply, the next number belongs to it too and is sync as it is. A lazy message and a destructor are async,
-- a sync message is not compressed, and a sync message that the parent sends has level inside_sync.
pub record IsSoundRow (schema : Schema) (n : ℕ) (row : MessageRow) : Type 0 where
  pub number : row.number ≡ n
  pub is_sync : is_sync_number schema n ≡ is_sync_row row
  pub has_level : level_of schema n ≡ row.level
  pub reply : has_reply row ≡ true → message_of schema (n + 1) ≡ Some row
  pub reply_sync : is_sync_number schema (n + 1) ≡ is_sync_row row
  pub lazy : row.lazy ≡ true → is_sync_row row ≡ false
  pub delete : row.kind ≡ Delete → is_sync_row row ≡ false
  pub compress : is_sync_row row ≡ true → row.compress ≡ Plain
  pub of_parent : is_sync_row row ≡ true → sends Parent row.direction ≡ true → row.level ≡ InsideSync

-- each request of a schema has a sound row
abbrev pub HasSoundRows : Schema → Type 0
HasSoundRows schema = (n : ℕ) (row : MessageRow) → request_row schema n ≡ Some row → IsSoundRow schema n row
