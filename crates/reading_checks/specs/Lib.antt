pub mod Deferrals
