-- The definitions of the crates behind this one, by topic.
pub mod Types
pub use Rattle.typed_ids.specs.Refusals
pub use Rattle.typed_ids.specs.TotalMaps
pub use Rattle.typed_ids.specs.WithRoot
pub use Rattle.id_maps.specs.IndexedSet
pub use Rattle.id_storage.specs.Arena
pub use Rattle.id_storage.specs.Mapping
pub use Rattle.id_storage.specs.MappingLends
