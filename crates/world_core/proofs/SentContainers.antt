-- Slabs and maps in insertion order may go to another thread where what they hold may.
use denote.RattleType.{RattleType}
use denote.Param.Send.{IsSend, sendable}
use Rattle.std.specs.declared.cmp.PartialEq as eq
use Rattle.std.specs.declared.hash.Hash as hash
use Rattle.std.specs.declared.hash.Hasher as hasher
use Rattle.std.specs.declared.hash.BuildHasher as builder
use Rattle.indexmap.specs.contracts.columns.Columns as columns
use Rattle.indexmap.specs.contracts.index_table.IndexTable as tables
use Rattle.indexmap.specs.contracts.map.IndexMap as maps
use Rattle.slab.specs.contracts.Entry as entries
use Rattle.slab.specs.contracts.Slab as slabs
use Rattle.std.proofs.Crossing.{crosses}
use Rattle.std.specs.contracts.alloc.Global as heap
use Rattle.std.specs.contracts.impls.GlobalAllocator.TheImpl.{ghosts}

table_send : IsSend (tables.the_field heap.the_row ghosts).row
table_send = search (sendable, crosses) depth 20

module _ (T : RattleType) where
  entry_send : IsSend T → IsSend (entries.the_field T).row
  entry_send s = search (sendable, crosses) depth 20

  pub slab_send : IsSend T → IsSend (slabs.the_field T heap.the_row ghosts).row
  slab_send s = let e = entry_send s in search (sendable, crosses) depth 20

module _ (K V : RattleType) where
  columns_send : IsSend K → IsSend V → IsSend (columns.the_field K V heap.the_row ghosts).row
  columns_send sk sv = search (sendable, crosses) depth 20

module _ (K V S T : RattleType) (e : eq.Ghosts K.Denot) (h : hash.Ghosts K.Denot) (b : builder.Ghosts S.Denot T.Denot) (w : hasher.Ghosts T.Denot) where
  pub map_send : IsSend K → IsSend V → IsSend S → IsSend (maps.the_field K V S heap.the_row T e h b w ghosts).row
  map_send sk sv ss = let c = columns_send K V sk sv in let t = table_send in search (sendable, crosses) depth 20

pub ruleset containers = (slab_send, map_send)
