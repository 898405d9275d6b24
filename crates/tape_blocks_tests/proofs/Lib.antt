pub mod BackLaws
pub mod PutsLaws
pub mod RecordLaws
