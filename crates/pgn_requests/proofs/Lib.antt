pub mod SettingLaws
pub mod RequestLaws
