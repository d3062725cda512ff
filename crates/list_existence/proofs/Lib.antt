mod Forms
mod Lines
mod Lists
