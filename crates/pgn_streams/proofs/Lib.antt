pub mod AdapterLaws
